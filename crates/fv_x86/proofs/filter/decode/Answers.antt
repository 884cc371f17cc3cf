use Rattle.std.proofs.Common.{◌≤◌, ◌++◌, List, ℕ, length, take, drop, ap, sym, ◌∙◌, arith}
use Rattle.std.proofs.lemmas.List.{length-drop, take-append-drop}
use Rattle.fv_x86.proofs.FilterLemmas.{instruction_converted, tail_stays}
use Rattle.fv_x86.proofs.filter.decode.Goals as goal

pub loop-bytes-preserved-then-converts : goal.loop-bytes-preserved-then-converts
loop-bytes-preserved-then-converts c = (
  omega (arith, c.convert.ensures.len),
  omega arith,
  instruction_converted c.loop-bytes.bytes c.convert.new.bytes c.loop-bytes.at c.loop-bytes.opcodes (omega arith) (sym c.converts.ensures ∙ c.if-converts.true) c.convert.ensures.items ∙ c.loop-bytes.invariant.2,
)

pub returns : goal.returns
returns c =
    let at : ℕ = c.loop-bytes.at in
    let bytes : List ℕ = c.loop-bytes.bytes in
    let few : length (drop at bytes) ≤ 4 = omega (arith, length-drop at bytes) in
    sym (ap (λ xs. take at bytes ++ xs) (tail_stays at c.loop-bytes.opcodes (drop at bytes) few) ∙ take-append-drop at bytes) ∙ c.loop-bytes.invariant.2
