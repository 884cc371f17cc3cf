use Rattle.std.proofs.Common.{◌<◌, ℕ, ◌∷◌, [], ◌++◌, List, length, take, sym, ap, ◌∙◌, arith}
use Rattle.std.proofs.lemmas.List.{get_or-map, length-map, take_more}
use Rattle.fv_names.specs.Words.{Entry, entries_of, numbers_in}
use Rattle.fv_names.proofs.IndexLaws.{no_entry}
use Rattle.fv_names.proofs.name_order.NameOrder.of.Goals as goal

pub loop-place-preserved : goal.loop-place-preserved
loop-place-preserved c =
    let number : Entry → ℕ = λ e. e.1 in
    let es : List Entry = entries_of c.args.index.now in
    let place : ℕ = c.loop-place.place in
    let l : place < length es = omega arith in
    c.in_ok-push.ensures.items ∙ ap (λ (ns : List ℕ). ns ++ c.number_at.result ∷ []) c.loop-place.invariant
    ∙ ap (λ (n : ℕ). take place (numbers_in es) ++ n ∷ []) (c.number_at.ensures no_entry ∙ sym (get_or-map number es place no_entry 0 l))
    ∙ sym (take_more (numbers_in es) place 0 (omega (arith, l, length-map es number)))
