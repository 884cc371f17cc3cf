use Rattle.std.proofs.Common.{◌≡◌, ◌<◌, ℕ, List, length, map, get_or, ap, sym, ◌∙◌, arith, lt-ltb}
use Rattle.fv_base.proofs.Laws.{get_or-map, is_lt, length-map}
use Rattle.fv_base.specs.declared.guid.Guid.{Guid}
use Rattle.fv_names.specs.Words.{Halves, halves_cmp, halves_of}
use Rattle.fv_names.proofs.name_order.precedes.Goals as goal

pub returns : goal.returns
returns g c = λ other. let h = c.in-Some.ensures in
    let name_of = g.F.WithName.name_of in
    let names : List Guid = map name_of c.args.files.now in
    let n : ℕ = c.args.number in
    let inside : n < length c.args.files.now = omega (arith, h.lookup.3) in
    let name : c.name.result ≡ get_or names n other = c.name.ensures ∙ ap name_of (h.lookup.3.1 c.in-Some.file.now) ∙ sym (get_or-map name_of c.args.files.now n _ other inside) in
    rw (lt-ltb n (length names) (omega (arith, inside, length-map c.args.files.now name_of)))
    (c.is_before.ensures ∙ ap (λ (h : Halves). is_lt (halves_cmp h c.args.key)) (c.halves.ensures.is ∙ ap halves_of name))
