use Rattle.std.proofs.Common.{◌≡◌, ◌<◌, ℕ, List, length, map, get_or, Bool, true, false, rules, sym, ap, ◌∙◌, subst, arith, Some}
use Rattle.fv_base.proofs.Laws.{not_from_Decides, length-map, get_or-map}
use Rattle.fv_base.specs.declared.guid.Guid.{Guid}
use Rattle.fv_names.specs.Words.{Entry, halves_of}
use Rattle.fv_names.proofs.EntryOrderLaws.{halves_decide}
use Rattle.fv_names.proofs.IndexLaws.{IsPlaceOf, found_none, found_there, no_entry, no_named, number_inside, number_there, halves_there, place_inside}
use Rattle.fv_names.proofs.IndexLaws.{numbers_parted, place_there, precedes}
use Rattle.std.specs.List.Sorted.{IsPartitionedBy, IsPartitionPoint}
use Rattle.std.proofs.lemmas.List.Sorted.{IsPartitionPoint-from_clause}
use Rattle.fv_names.proofs.name_order.NameOrder.get.Goals.{After-partition_point-first, In_ok-number, After-halves}
use Rattle.fv_names.proofs.name_order.NameOrder.get.Goals as goal

-- the search ends at the place of the name
found : (g : _) (c : After-partition_point-first g) → IsPlaceOf c.halves-key.result c.requires.entries c.partition_point-first.result
found g c =
    let names : List Guid = map g.F.WithName.name_of c.args.files.now in
    let first : ℕ = c.partition_point-first.result in
    let test : ℕ → Bool = precedes names c.args.self.now.numbers.items c.requires c.halves-key.result in
    let items = c.as_slice.ensures.value in
    place_there names _ c.requires c.halves-key.result first (omega (arith, c.as_slice.ensures.len, c.partition_point-first.ensures.bound))
    (subst (λ ns. IsPartitionPoint (λ n. test n ≡ true) (λ n. test n ≡ false) ns first) items
    (IsPartitionPoint-from_clause test _ _ c.partition_point-first.ensures.partitioned
    (subst (IsPartitionedBy test) (sym items) (numbers_parted names _ c.requires c.halves-key.result)) (λ a r q k. search rules)))

-- the number at this place is the number of the file
abbrev IsThere : List ℕ → ℕ → ℕ → Type 0
IsThere numbers first n = (first < length numbers) × (n ≡ get_or numbers first 0)

number_is : (g : _) (c : In_ok-number g) → IsThere c.args.self.now.numbers.items c.partition_point-first.result c.in_ok-number.field-0.now
number_is g c = let h = c.in_ok-number.ensures.lookup.3 in (rw c.deref.ensures.value at h.0, rw c.deref.ensures.value at (h.1 0))

within : (g : _) (c : In_ok-number g) → c.in_ok-number.field-0.now < length c.args.files.now
within g c =
    let n = number_is g c in
    omega (arith, n.1, number_inside _ _ c.requires _ 0 no_entry n.0, length-map c.args.files.now g.F.WithName.name_of)

pub bounds-files-number : goal.bounds-files-number
bounds-files-number g c = within g (goal.at.bounds-files-number g c).In_ok-number

pub offset_bounds-files-number : goal.offset_bounds-files-number
offset_bounds-files-number g c = let l = within g (goal.at.offset_bounds-files-number g c).In_ok-number in omega arith

-- the name of the file with this number is the name of the entry at this place
same : (g : _) (c : After-halves g) → IsThere c.args.self.now.numbers.items c.partition_point-first.result c.in_ok-number.field-0.now
    → c.in_ok-number.field-0.now < length c.args.files.now
    → c.halves.result ≡ (get_or c.requires.entries c.partition_point-first.result no_entry).0
same g c n l =
    let name_of = g.F.WithName.name_of in
    let names : List Guid = map name_of c.args.files.now in
    let name : c.name.result ≡ get_or names c.in_ok-number.field-0.now no_named.name = c.name.ensures ∙ ap name_of c.index-files-number.is
    ∙ sym (get_or-map name_of c.args.files.now c.in_ok-number.field-0.now _ no_named.name l) in
    c.halves.ensures.is ∙ ap halves_of name ∙ ap (λ (i : ℕ). halves_of (get_or names i no_named.name)) n.1
    ∙ halves_there names _ c.requires _ 0 no_entry n.0 no_named.name

pub returns-in_err-number : goal.returns-in_err-number
returns-in_err-number g c =
    c.from_residual.ensures
    ∙ found_none c.requires.entries c.halves-key.result c.requires.index.ordered _ (found g (goal.at.returns-in_err-number g c).After-partition_point-first) no_entry
    c.args.name.now c.halves-key.ensures.sixteen c.halves-key.ensures.is _ c.requires.index (λ l. absurd (omega (
      arith,
      l,
      c.in_err-number.ensures.lookup.3,
      ap length c.requires.are_numbers,
      length-map c.requires.entries (λ (e : Entry). e.1),
    )))

pub returns-then-eq : goal.returns-then-eq
returns-then-eq g c =
    let k = (goal.at.returns-then-eq g c).In_ok-number in
    let n = number_is g k in
    let here = same g (goal.at.returns-then-eq g c).After-halves n (within g k) in
    ap Some (n.1 ∙ number_there _ _ c.requires _ 0 no_entry n.0)
    ∙ found_there c.requires.entries c.halves-key.result c.requires.index.ordered _ (found g (goal.at.returns-then-eq g c).After-partition_point-first) no_entry
    c.args.name.now c.halves-key.ensures.sixteen c.halves-key.ensures.is _ c.requires.index (place_inside _ _ c.requires _ 0 no_entry n.0)
    (sym here ∙ (halves_decide c.halves.result c.halves-key.result).0 (sym c.if-eq.ensures))

pub returns : goal.returns
returns g c =
    let k = (goal.at.returns g c).In_ok-number in
    let here = same g (goal.at.returns g c).After-halves (number_is g k) (within g k) in
    found_none c.requires.entries c.halves-key.result c.requires.index.ordered _ (found g (goal.at.returns g c).After-partition_point-first) no_entry
    c.args.name.now c.halves-key.ensures.sixteen c.halves-key.ensures.is _ c.requires.index (λ l is.
    not_from_Decides _ (halves_decide c.halves.result c.halves-key.result) (sym c.if-eq.ensures) (here ∙ is))
