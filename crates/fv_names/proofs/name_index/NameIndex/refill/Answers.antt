use Rattle.std.proofs.Common.{◌≡◌, ◌<◌, ℕ, ◌+◌, [], ◌∷◌, ◌++◌, get_or, length, List, map, take, sym, ap, ◌∙◌, subst, arith, length-take-le, take_all}
use Rattle.fv_base.proofs.Laws.{All, AllWithin, get_or-map, length-map, take_more, All-map, recursion_from_All}
use Rattle.std.specs.List.Sorted.{IsPermutation}
use Rattle.std.proofs.lemmas.List.Elements.{All-from_all_within, AllWithin-more}
use Rattle.fv_names.specs.Words.{NamedFile, names_in, Entry, Halves, IsName, halves_of, numbered}
use Rattle.fv_names.proofs.IndexLaws.{no_entry, no_named}
use Rattle.fv_names.proofs.NumberedLaws.{numbered_at, numbered_length}
use Rattle.fv_names.proofs.name_index.NameIndex.refill.Goals as goal

abbrev HasName : NamedFile → Type 0
HasName f = IsName f.name

entry_count : (fs : List NamedFile) → length (numbered 0 (names_in fs)) ≡ length fs
entry_count fs = numbered_length 0 (names_in fs) ∙ length-map fs (λ (f : NamedFile). f.name)

-- the entries of the first i + 1 files are the entries of the first i files, and then the entry of file number i
entry_more : (fs : List NamedFile) (i : ℕ) → i < length fs
    → take (i + 1) (numbered 0 (names_in fs)) ≡ take i (numbered 0 (names_in fs)) ++ (halves_of (get_or fs i no_named).name, i) ∷ []
entry_more fs i l =
    let count : i < length (names_in fs) = omega (arith, l, length-map fs (λ (f : NamedFile). f.name)) in
    rw (
      take_more (numbered 0 (names_in fs)) i no_entry (omega (arith, l, entry_count fs)),
      numbered_at (names_in fs) i no_named.name no_entry count,
      get_or-map (λ (f : NamedFile). f.name) fs i no_named no_named.name l,
    )

pub loop-file-preserved : goal.loop-file-preserved
loop-file-preserved g c =
    let files : List NamedFile = map g.F.Named.named c.args.files.now in
    let i : ℕ = c.loop-file.file-index in
    let old : List Entry = c.loop-file.self.sorted.items in
    let l : i < length files = omega (arith, c.loop-file-test.true, length-map c.args.files.now g.F.Named.named) in
    let count : length old ≡ i =
    ap length c.loop-file.invariant.items ∙ length-take-le i (numbered 0 (names_in files)) (omega (arith, l, entry_count files)) in
    let number : c.len-number.result ≡ i = omega (arith, count, c.len-number.ensures) in
    let here : (d : NamedFile) → c.name.result ≡ (get_or files i d).name = λ d. c.name.ensures ∙ ap (λ (f : NamedFile). f.name)
    (ap g.F.Named.named c.file-item.is ∙ sym (get_or-map g.F.Named.named c.args.files.now i _ d c.loop-file-test.true)) in
    record {
      items = c.in_ok-push.ensures.items ∙ ap (λ (es : List Entry). es ++ (c.halves.result, c.len-number.result) ∷ []) c.loop-file.invariant.items
          ∙ ap (λ (n : ℕ). take i (numbered 0 (names_in files)) ++ (c.halves.result, n) ∷ []) number
          ∙ ap (λ (h : Halves). take i (numbered 0 (names_in files)) ++ (h, i) ∷ []) (c.halves.ensures.is ∙ ap halves_of (here no_named))
          ∙ sym (entry_more files i l);
      whole = AllWithin-more HasName files 0 i c.loop-file.invariant.whole (λ d. subst IsName (here d) c.halves.ensures.sixteen);
    }

pub returns-clause-found : goal.returns-clause-found
returns-clause-found g c =
    let files : List NamedFile = map g.F.Named.named c.args.files.now in
    let entries : List Entry = numbered 0 (names_in files) in
    let i : ℕ = c.loop-file.file-index in
    let all : i ≡ length files = omega (arith, length-map c.args.files.now g.F.Named.named) in
    let whole : All HasName files = All-from_all_within HasName files (subst (AllWithin HasName files 0) all c.loop-file.invariant.whole) in
    let items : c.loop-file.self.sorted.items ≡ entries = c.loop-file.invariant.items ∙ take_all i entries (omega (arith, all, entry_count files)) in
    record {
      ordered = c.sort_unstable.ensures.sorted;
      all = subst (λ es. IsPermutation es c.sort_unstable.new.self.items) items c.sort_unstable.ensures.permutation;
      are_names = recursion_from_All IsName (names_in files) (All-map IsName (λ (f : NamedFile). f.name) files whole);
    }
