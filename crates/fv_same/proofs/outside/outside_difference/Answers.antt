use Rattle.std.proofs.Common.{◌≡◌, [], not, ap, ap₂, ◌∙◌, arith}
use Rattle.fv_same.specs.Words.{all_differing, asides_among}
use Rattle.fv_same.proofs.OutsideLemmas.{no_aside}
use Rattle.fv_same.proofs.outside.outside_difference.Goals as goal

pub returns-then-is_none-2-clause-count : goal.returns-then-is_none-2-clause-count
returns-then-is_none-2-clause-count c =
    let one : asides_among c.loop-other.one.items ≡ [] =
    no_aside c.in_ok-aside.aside (asides_among c.loop-other.one.items) (asides_among c.next_aside.new.self.items)
    c.in_ok-aside.ensures.none (c.is_none.ensures ∙ ap not c.if-is_none.true) in
    let other : asides_among c.loop-other.other.items ≡ [] =
    no_aside c.in_ok-twin.twin (asides_among c.loop-other.other.items) (asides_among c.next_aside-in-loop-other.new.self.items)
    c.in_ok-twin.ensures.none (c.is_none-then-is_none.ensures ∙ ap not c.if-is_none-2.true) in
    let none : all_differing (asides_among c.loop-other.one.items) (asides_among c.loop-other.other.items) ≡ 0 =
    ap₂ all_differing one other in
    omega (arith, c.loop-other.invariant.0, c.loop-other.invariant.1, none)
