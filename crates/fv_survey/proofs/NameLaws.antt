-- The names of the files of a volume. The steps:
-- 1. A walk over the cells has passed some files, and others are left (`InWalk`, `walk_on`, `walk_end`).
-- 2. A file that ends where the volume ends is the last of the files, and the last of the files that a filter keeps
--    (`ends_last`).
-- 3. So a volume top file that is not superseded is elsewhere if it does not end at the end (`top_end`). It is
--    superseded exactly if it is marked, and there is a volume top file that is not marked (`top_elsewhere`).
-- 4. The first file with an earlier twin shows whether there are twins (`twins_decided`).
use Rattle.std.proofs.Common.{◌≡◌, ◌≤◌, ◌<◌, ◌+◌, ◌-◌, ◌%◌, ◌==◌, ◌&&◌, ◌||◌, ℕ, zero, suc, not, nat_lt, Bool, true, false, if◌then◌else◌}
use Rattle.std.proofs.Common.{List, [], ◌∷◌, ◌++◌, length, take, drop, get_or, map, refl, sym, ap, ◌∙◌, subst, arith, inl, inr}
use Rattle.std.proofs.Common.{append_assoc, append-nil, eqb-true, length-drop, length-take-le, take_all}
use Rattle.std.proofs.lemmas.Bool.{cond_both, or_cases}
use Rattle.std.proofs.lemmas.Grind.{common_steps}
use Rattle.std.specs.Cmp.{both_ways}
use Rattle.std.proofs.Math.Bool.{and-false}
use Rattle.fv_base.proofs.Laws.{and_join, and_split, bytes_eq, bytes_eq-Decides, bytes_of, filter, list_any, list_any_at, ltb-false, ltb-true}
use Rattle.fv_base.proofs.Laws.{not_equal, or_both, up_is_not_down}
use Rattle.fv_base.specs.declared.guid.Guid.{Guid}
use Rattle.fv_names.specs.Words.{NamedFile, NoTwins, is_name, is_twin, replaced_by}
use Rattle.fv_names.proofs.Laws.{no_named}
use Rattle.fv_tree.specs.Words.{top_name}
use Rattle.fv_base.specs.Words.{field}
use Rattle.fv_base.specs.declared.fault.FaultKind.TheVariants as faults
use Rattle.fv_survey.specs.declared.findings.Findings.{Findings}
use Rattle.fv_survey.specs.declared.names.BodyFile.{BodyFile}
use Rattle.fv_survey.specs.declared.parts.Parts.{Parts}
use Rattle.fv_survey.specs.declared.systems.Files.{Files}
use Rattle.fv_survey.specs.declared.systems.Files.TheVariants as kinds
use Rattle.fv_survey.specs.Words.{body_files, cells_by, cells_end, current_files, file_if, files_among, files_findings, has_top_elsewhere}
use Rattle.fv_survey.specs.Words.{has_twins, is_top, layout_of, named_file, none, piece_by, with_if}
use Rattle.fv_survey.specs.declared.pieces.Layout.{Layout}
use Rattle.fv_survey.specs.declared.pieces.Piece.{Piece}
use Rattle.fv_survey.specs.declared.pieces.Sort.{Sort}
use Rattle.fv_survey.specs.declared.pieces.Sort.TheVariants as sorts
use Rattle.fv_survey.specs.inner.LastFiles.{EndIsLast, is_early_top, is_unmarked_top}
use Rattle.fv_survey.specs.inner.Pieces.{IsPiece}
use Rattle.fv_survey.proofs.RuleLaws.{piece_lies}

-- ---- a walk over the cells

module _ (layout : Layout) (len : ℕ) where
  -- the walk has passed the files `passed` of all files, and the cells r, at the offset `at`, are left
  abbrev pub FilesLeft : ℕ → List ℕ → List BodyFile → List BodyFile → Type 0
  FilesLeft at r passed all = (n : ℕ) × (length r ≤ n) × (passed ++ files_among layout len n at r ≡ all)

  -- the files among the first n + 1 pieces of r: the first piece, if it is a file, and the files after it; or none, if the
  -- test whether r has no bytes is true
  abbrev first_among : ℕ → ℕ → List ℕ → List BodyFile
  first_among n at r =
      file_if (piece_by layout r).sort len at (piece_by layout r)
      ++ files_among layout len n (at + (piece_by layout r).span) (drop (piece_by layout r).span r)

  abbrev by_test : ℕ → ℕ → List ℕ → Bool → List BodyFile
  by_test n at r empty = if empty then [] else first_among n at r

  none_among : (n at : ℕ) (r : List ℕ) → length r ≡ 0 → files_among layout len n at r ≡ []
  none_among zero at r empty = refl
  none_among (suc n) at r empty = ap (λ k. by_test n at r (k == 0)) empty

  some_among : (n at : ℕ) (r : List ℕ) → 0 < length r → files_among layout len (suc n) at r ≡ first_among n at r
  some_among n at r some = ap (by_test n at r) (not_equal (length r) 0 (λ e. omega (arith, e, some)))

  files_on : (at : ℕ) (r : List ℕ) (passed all : List BodyFile) → 0 < length r → IsPiece (length r) (piece_by layout r)
      → FilesLeft at r passed all → FilesLeft (at + (piece_by layout r).span) (drop (piece_by layout r).span r)
      (passed ++ file_if (piece_by layout r).sort len at (piece_by layout r)) all
  files_on at r passed all some piece (zero, few, is) = absurd (omega (arith, some, few))
  files_on at r passed all some piece (suc n, few, is) = (
    n,
    omega (arith, few, piece.some, length-drop (piece_by layout r).span r),
    append_assoc passed _ _ ∙ ap (λ l. passed ++ l) (sym (some_among n at r some)) ∙ is,
  )

  -- the walk has passed some files, and the cells r that are left lie within the volume
  pub record InWalk (at : ℕ) (r : List ℕ) (passed all : List BodyFile) : Type 0 where
    pub left : FilesLeft at r passed all
    pub multiple : length r % 8 ≡ 0
    pub within : at + length r ≤ len

  -- the first piece of some cells lies within them
  pub first_lies : (r : List ℕ) (piece : Piece) → 0 < length r → length r % 8 ≡ 0 → piece ≡ piece_by layout r → IsPiece (length r) piece
  first_lies r piece some multiple is = subst (IsPiece (length r)) (sym is) (piece_lies layout r some multiple)

  pub walk_on : (at : ℕ) (r : List ℕ) (passed all : List BodyFile) (piece : Piece) (more : List BodyFile) → 0 < length r
      → InWalk at r passed all → piece ≡ piece_by layout r → more ≡ passed ++ file_if piece.sort len at piece
      → InWalk (at + piece.span) (take (length r - piece.span) (drop piece.span r)) more all
  walk_on at r passed all piece more some walk is pushed =
      subst (λ (rest : List ℕ). InWalk (at + piece.span) rest more all) (sym rest) (record {
        left = rw (pushed, is) (files_on at r passed all some (piece_lies layout r some walk.multiple) walk.left);
        multiple = omega (arith, walk.multiple, lies.multiple, lies.within, length-drop piece.span r);
        within = omega (arith, walk.within, lies.within, length-drop piece.span r);
      })
    where
      lies : IsPiece (length r) piece
      lies = first_lies r piece some walk.multiple is

      rest : take (length r - piece.span) (drop piece.span r) ≡ drop piece.span r
      rest = take_all (length r - piece.span) (drop piece.span r) (omega (arith, length-drop piece.span r))

  pub walk_end : (at : ℕ) (r : List ℕ) (passed all : List BodyFile) → length r ≡ 0 → InWalk at r passed all → passed ≡ all
  walk_end at r passed all empty walk =
      let (n, few, is) = walk.left in
      sym (append-nil passed) ∙ ap (λ l. passed ++ l) (sym (none_among n at r empty)) ∙ is

  -- ---- the last file

  -- the first piece of r is a file at the end only if no bytes are left after it
  last_among : (n at : ℕ) (r : List ℕ) → at + length r ≤ len → IsPiece (length r) (piece_by layout r)
      → EndIsLast (files_among layout len n (at + (piece_by layout r).span) (drop (piece_by layout r).span r))
      → EndIsLast (first_among n at r)
  last_among n at r within lies rest = put (piece_by layout r).sort where
    piece : Piece
    piece = piece_by layout r

    last : (at + piece.size == len) ≡ true → files_among layout len n (at + piece.span) (drop piece.span r) ≡ []
    last end =
        none_among n (at + piece.span) (drop piece.span r)
        (omega (arith, eqb-true (at + piece.size) len end, within, lies.size, lies.within, length-drop piece.span r))

    put : (sort : Sort) → EndIsLast (file_if sort len at piece ++ files_among layout len n (at + piece.span) (drop piece.span r))
    put sorts.File = (last, rest)
    put sorts.Pad = rest
    put sorts.Dead = rest
    put sorts.Stub = rest
    put sorts.Free = rest
    put sorts.Lost = rest

  pub ends_last : (n at : ℕ) (r : List ℕ) → at + length r ≤ len → length r % 8 ≡ 0 → EndIsLast (files_among layout len n at r)
  ends_last zero at r within multiple = tt
  ends_last (suc n) at r within multiple =
      first_or_none (length r) refl (λ some. let lies = piece_lies layout r some multiple in last_among n at r within lies
      (ends_last n (at + (piece_by layout r).span) (drop (piece_by layout r).span r)
      (omega (arith, within, lies.within, length-drop (piece_by layout r).span r))
      (omega (arith, multiple, lies.multiple, lies.within, length-drop (piece_by layout r).span r))))
    where
      first_or_none : (k : ℕ) → length r ≡ k → (0 < length r → EndIsLast (first_among n at r)) → EndIsLast (files_among layout len (suc n) at r)
      first_or_none zero e first = subst EndIsLast (sym (none_among (suc n) at r e)) tt
      first_or_none (suc k) e first =
          let some : 0 < length r = omega (arith, e) in subst EndIsLast (sym (some_among n at r some)) (first some)

some_lie : (first : ℕ) (b : List ℕ) → first ≤ length b → let cells = field first (cells_end first (length b) - first) b in
    (first + length cells ≤ length b) × (length cells % 8 ≡ 0)
some_lie first b l =
    let long : length (field first (cells_end first (length b) - first) b) ≡ cells_end first (length b) - first =
    length-take-le (cells_end first (length b) - first) (drop first b) (omega (arith, length-drop first b, l)) in
    (omega (arith, long, l), rw long (omega arith))

-- the cells of a body lie within the volume, and have a multiple of 8 bytes
cells_lie : (files : Files) (first : ℕ) (b : List ℕ) → first ≤ length b
    → (first + length (cells_by files first b) ≤ length b) × (length (cells_by files first b) % 8 ≡ 0)
cells_lie kinds.Store first b l = (omega (arith, l), refl)
cells_lie kinds.Unknown first b l = (omega (arith, l), refl)
cells_lie kinds.Ffs1 first b l = some_lie first b l
cells_lie kinds.Ffs2 first b l = some_lie first b l
cells_lie kinds.Ffs3 first b l = some_lie first b l

-- the walk begins with all cells
pub walk_begins : (parts : Parts) (b r : List ℕ) (passed : List BodyFile) → parts.first ≤ length b → r ≡ cells_by parts.files parts.first b
    → passed ≡ [] → InWalk (layout_of parts) (length b) parts.first r passed (body_files parts b)
walk_begins parts b r passed l is empty =
    let lie = cells_lie parts.files parts.first b l in
    rw (is, empty) (record { left = (length (cells_by parts.files parts.first b), omega arith, refl); multiple = lie.1; within = lie.0 })

pub body_last : (parts : Parts) (b : List ℕ) → parts.first ≤ length b → EndIsLast (body_files parts b)
body_last parts b l =
    let lie = cells_lie parts.files parts.first b l in
    ends_last (layout_of parts) (length b) (length (cells_by parts.files parts.first b)) parts.first
    (cells_by parts.files parts.first b) lie.0 lie.1

-- the same is true of the files that a filter keeps
last_kept : (p : BodyFile → Bool) (fs : List BodyFile) → EndIsLast fs → EndIsLast (filter p fs)
last_kept p [] e = tt
last_kept p (f ∷ fs) e =
    let rest = last_kept p fs e.1 in
    cond_both (p f) _ _ EndIsLast (λ _. ((λ end. ap (filter p) (e.0 end)), rest)) (λ _. rest)

-- ---- volume top files

top_end : (fs : List BodyFile) → EndIsLast fs → has_top_elsewhere fs ≡ list_any (λ f. is_top f && not f.is_at_end) fs
top_end [] e = refl
top_end (f ∷ []) e = grind (arith, common_steps)
top_end (f ∷ g ∷ fs) e =
    let inner : f.is_at_end ≡ false = go f.is_at_end e.0 in
    rw (top_end (g ∷ fs) e.1, inner) (one (is_top f) _)
  where
    go : (v : Bool) → (v ≡ true → (g ∷ fs) ≡ []) → v ≡ false
    go true h = cc (h refl)
    go false h = refl

    one : (a b : Bool) → (a || b) ≡ ((a && not false) || b)
    one true b = refl
    one false b = refl

-- ---- tests of items of a list

-- a test of the items that a filter keeps is a test of all items, together with the test of the filter
any_kept : (p q : BodyFile → Bool) (fs : List BodyFile) → list_any q (filter p fs) ≡ list_any (λ f. q f && p f) fs
any_kept p q [] = refl
any_kept p q (f ∷ fs) = go (p f) (q f) refl (any_kept p q fs) where
  go : (a b : Bool) → q f ≡ b → list_any q (filter p fs) ≡ list_any (λ g. q g && p g) fs
      → list_any q (if a then f ∷ filter p fs else filter p fs) ≡ ((b && a) || list_any (λ g. q g && p g) fs)
  go true true is rest = rw is refl
  go true false is rest = rw is rest
  go false true is rest = rest
  go false false is rest = rest

-- two tests that agree on each item
any_same : (p q : BodyFile → Bool) → ((f : BodyFile) → p f ≡ q f) → (fs : List BodyFile) → list_any p fs ≡ list_any q fs
any_same p q same [] = refl
any_same p q same (f ∷ fs) = rw (same f, any_same p q same fs)

-- a test that fails for each item
any_never : (p : BodyFile → Bool) → ((f : BodyFile) → p f ≡ false) → (fs : List BodyFile) → list_any p fs ≡ false
any_never p never [] = refl
any_never p never (f ∷ fs) = or_both (p f) (list_any p fs) (never f) (any_never p never fs)

-- ---- superseded volume top files

-- equal bytes are equal the other way round
eq_back : (a b c : List ℕ) → a ≡ c → bytes_eq a b ≡ bytes_eq b c
eq_back a b c e =
    both_ways (bytes_eq a b) (bytes_eq b c) (λ h. (bytes_eq-Decides b c).1 (sym ((bytes_eq-Decides a b).0 h) ∙ e))
    (λ h. (bytes_eq-Decides a b).1 (e ∙ sym ((bytes_eq-Decides b c).0 h)))

-- a volume top file is superseded exactly if it is marked, and there is a volume top file that is not marked
top_replaced : (f : BodyFile) (fs : List BodyFile) → is_top f ≡ true
    → list_any (λ g. replaced_by (named_file f) (named_file g)) fs ≡ (f.is_marked && list_any is_unmarked_top fs)
top_replaced f fs top = go f.is_marked where
  same : (g : BodyFile) → is_name f.name g.name ≡ is_top g
  same g = eq_back (bytes_of f.name) (bytes_of g.name) top_name ((bytes_eq-Decides (bytes_of f.name) top_name).0 top)

  go : (m : Bool) → list_any (λ (g : BodyFile). is_name f.name g.name && (m && not g.is_marked)) fs
      ≡ (m && list_any is_unmarked_top fs)
  go true = any_same _ _ (λ g. ap (λ b. b && not g.is_marked) (same g)) fs
  go false = any_never _ (λ g. and-false (is_name f.name g.name)) fs

pub top_elsewhere : (fs : List BodyFile) → EndIsLast fs → has_top_elsewhere (current_files fs)
    ≡ list_any (is_early_top (list_any is_unmarked_top fs)) fs
top_elsewhere fs last =
    top_end (current_files fs) (last_kept _ fs last) ∙ any_kept _ _ fs ∙ any_same _ _ (λ f. one f (is_top f) refl) fs
  where
    one : (f : BodyFile) (t : Bool) → is_top f ≡ t
        → (t && not f.is_at_end && not (list_any (λ g. replaced_by (named_file f) (named_file g)) fs))
        ≡ (t && not f.is_at_end && not (f.is_marked && list_any is_unmarked_top fs))
    one f true top = ap (λ b. true && not f.is_at_end && not b) (top_replaced f fs top)
    one f false top = refl

-- ---- twins

-- no two files are twins exactly if there are no twins
pub no_twins : (fs : List NamedFile) → NoTwins is_twin fs → has_twins fs ≡ false
no_twins [] h = refl
no_twins (f ∷ fs) h = or_both (list_any (is_twin f) fs) (has_twins fs) h.0 (no_twins fs h.1)

name_back : (a b : Guid) → is_name a b ≡ true → is_name b a ≡ true
name_back a b h = grind (arith, common_steps, bytes_eq-Decides)

twin_back : (f g : NamedFile) → is_twin f g ≡ true → is_twin g f ≡ true
twin_back f g h = grind (arith, common_steps, and_split, and_join, name_back)

twin_found : (fs : List NamedFile) (n : ℕ) (d : NamedFile) → n < length fs
    → list_any (is_twin (get_or fs n d)) (take n fs) ≡ true → has_twins fs ≡ true
twin_found [] n d l h = absurd (omega (arith, l))
twin_found (f ∷ fs) zero d l h = absurd (up_is_not_down false h refl)
twin_found (f ∷ fs) (suc n) d l h =
    let under : n < length fs = omega (arith, l) in
    elim (or_cases (is_twin (get_or fs n d) f) (list_any (is_twin (get_or fs n d)) (take n fs)) h) [
      | inl t ↦ or_left _ _ (list_any_at (is_twin f) fs n d under (twin_back (get_or fs n d) f t))
      | inr t ↦ or_right _ _ (twin_found fs n d under t)
    ]
  where
    or_left : (a b : Bool) → a ≡ true → (a || b) ≡ true
    or_left a b e = rw e refl

    or_right : (a b : Bool) → b ≡ true → (a || b) ≡ true
    or_right true b e = refl
    or_right false b e = e

-- fewer than two files have no twins
pub few_twins : (fs : List NamedFile) → length fs < 2 → has_twins fs ≡ false
few_twins [] l = refl
few_twins (f ∷ []) l = refl
few_twins (f ∷ g ∷ fs) l = absurd (omega (arith, l))

-- there are twins exactly if some file has an earlier twin. n is the number of the first such file, or of all m files
pub twins_decided : (fs : List NamedFile) (m n : ℕ) → m ≡ length fs → n ≤ m → NoTwins is_twin (take n fs)
    → (n < m → (d : NamedFile) → list_any (is_twin (get_or fs n d)) (take n fs) ≡ true) → nat_lt n m ≡ has_twins fs
twins_decided fs m n long most apart first = go (nat_lt n m) refl where
  go : (v : Bool) → nat_lt n m ≡ v → v ≡ has_twins fs
  go true e = let l : n < m = ltb-true n m e in sym (twin_found fs n no_named (omega (arith, l, long)) (first l no_named))
  go false e =
      let l : m ≤ n = ltb-false n m e in
      sym (no_twins fs (subst (NoTwins is_twin) (take_all n fs (omega (arith, l, long))) apart))

-- ---- the findings

-- the findings of the files, as one kind is added after the other
pub findings_are : (fs : List BodyFile) (twins elsewhere : Bool) (one two : Findings) → twins ≡ has_twins (map named_file fs)
    → elsewhere ≡ has_top_elsewhere (current_files fs) → one ≡ with_if twins faults.DuplicateName none
    → two ≡ with_if elsewhere faults.TopFile one → two ≡ files_findings fs
findings_are fs twins elsewhere one two t e first second =
    second ∙ ap (with_if elsewhere faults.TopFile) first
    ∙ ap (λ v. with_if v faults.TopFile (with_if twins faults.DuplicateName none)) e
    ∙ ap (λ v. with_if (has_top_elsewhere (current_files fs)) faults.TopFile (with_if v faults.DuplicateName none)) t
