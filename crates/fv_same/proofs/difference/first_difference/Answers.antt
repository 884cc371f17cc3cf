use Rattle.std.proofs.Common.{◌≡◌, ◌≢◌, List, true, false, is_none, not, ap, ◌∙◌}
use Rattle.fv_same.specs.Words.{PlacedPart, parts_among, placed_parts}
use Rattle.fv_same.specs.declared.difference.Difference.{Difference}
use Rattle.fv_same.specs.inner.Walks.{meant}
use Rattle.fv_same.proofs.DifferenceLemmas.{found, goes_on, not_same}
use Rattle.fv_same.proofs.difference.first_difference.Goals as goal

pub returns-then-not-are_same-clause-other : goal.returns-then-not-are_same-clause-other
returns-then-not-are_same-clause-other c =
    let d : Difference = record { first = c.place_of.result; second = c.place_of-then-not-are_same.result } in
    let ms : List PlacedPart = placed_parts c.args.first.now in
    let ns : List PlacedPart = placed_parts c.args.second.now in
    let differ : meant c.in_ok-part.part ≢ meant c.in_ok-twin.twin =
    λ e. let yes : c.are_same.result ≡ true = c.are_same.ensures.all e in let no : c.are_same.result ≡ false = c.if-not-are_same.true in cc in
    not_same d ms ns (found d c.in_ok-part.part c.in_ok-twin.twin ms ns (parts_among c.loop-other.one.items)
    (parts_among c.loop-other.other.items) (parts_among c.next_part.new.self.items) (parts_among c.next_part-in-loop-other.new.self.items)
    c.loop-other.invariant (record { some = c.in_ok-part.ensures.some; none = c.in_ok-part.ensures.none })
    (record { some = c.in_ok-twin.ensures.some; none = c.in_ok-twin.ensures.none }) differ c.place_of.ensures
    c.place_of-then-not-are_same.ensures)

pub loop-other-preserved : goal.loop-other-preserved
loop-other-preserved c =
    let same : meant c.in_ok-part.part ≡ meant c.in_ok-twin.twin = c.are_same.ensures.yes c.if-not-are_same.false in
    let some : is_none c.in_ok-part.part ≡ false = ap not c.is_none.ensures ∙ ap (λ b. not (not b)) c.if-is_none.false in
    goes_on c.in_ok-part.part c.in_ok-twin.twin (placed_parts c.args.first.now) (placed_parts c.args.second.now)
    (parts_among c.loop-other.one.items) (parts_among c.loop-other.other.items) (parts_among c.next_part.new.self.items)
    (parts_among c.next_part-in-loop-other.new.self.items) c.loop-other.invariant
    (record { some = c.in_ok-part.ensures.some; none = c.in_ok-part.ensures.none })
    (record { some = c.in_ok-twin.ensures.some; none = c.in_ok-twin.ensures.none }) same some
