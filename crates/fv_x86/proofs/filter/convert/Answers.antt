use Rattle.std.proofs.Common.{◌≡◌, ◌+◌, ◌-◌, ℕ, List, ◌++◌, take, drop, ap, ◌∙◌, arith}
use Rattle.std.proofs.lemmas.List.{drop-drop}
use Rattle.std.specs.Int.{w32, from_le_bytes, to_le_bytes}
use Rattle.fv_x86.specs.Words.{distance, filtered_bytes}
use Rattle.fv_x86.proofs.FilterLemmas.{four_bytes}
use Rattle.fv_x86.proofs.filter.convert.Goals as goal

pub returns-clause-items : goal.returns-clause-items
returns-clause-items c =
    let at : ℕ = c.args.at in
    let bytes : List ℕ = c.args.bytes.now in
    let count : ℕ = at + 5 - (at + 1) in
    let end : at + 1 + count ≡ at + 5 = omega arith in
    let target = c.from_le_bytes-target.ensures ∙ ap (from_le_bytes w32) (four_bytes bytes at c.requires.room) in
    let found = c.distance-found.ensures ∙ ap (distance at c.args.opcodes) target in
    let middle : c.copy_from_slice.new.self ≡ filtered_bytes at c.args.opcodes (drop (at + 1) bytes) = c.copy_from_slice.ensures.after ∙ (c.to_le_bytes.ensures ∙ ap (to_le_bytes w32) found) in
    ap (λ xs. take (at + 1) bytes ++ (xs ++ drop count (drop (at + 1) bytes))) middle
    ∙ ap (λ xs. take (at + 1) bytes ++ (filtered_bytes at c.args.opcodes (drop (at + 1) bytes) ++ xs)) (drop-drop count (at + 1) bytes ∙ ap (λ k. drop k bytes) end)
