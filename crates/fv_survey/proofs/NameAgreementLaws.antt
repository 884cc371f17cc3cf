-- The findings of names agree with the strict reading: the files of a volume have none exactly if no two of them are
-- twins and a volume top file is at the end, as VolumeFiles of fv_tree states it. The steps:
-- 1. The files have twins exactly if the stored files have (`twins_agree`, `twins_found`).
-- 2. The current files are the same (`current_agree`).
-- 3. A volume top file is elsewhere exactly if it is not at the end (`top_agrees`, `top_found`).
use Rattle.std.proofs.Common.{◌≡◌, ◌==◌, ◌&&◌, ◌||◌, ℕ, not, Bool, true, false, List, [], ◌∷◌, get_or, map, refl, sym, ap, ◌∙◌}
use Rattle.std.specs.List.{list_any}
use Rattle.fv_base.proofs.Laws.{Decides-eqb, eqb-true, kept_noted, or_both, or_parts}
use Rattle.fv_base.specs.declared.fault.FaultKind.TheVariants as faults
use Rattle.fv_names.specs.Words.{is_twin, replaced_by}
use Rattle.fv_tree.specs.Words.{FileForm, NoStoredTwins, TopAtEnd, current_in, end_of, is_marked, is_stored_twin, superseded_by}
use Rattle.fv_tree.specs.Words as tree
use Rattle.fv_survey.specs.declared.names.BodyFile.{BodyFile}
use Rattle.fv_survey.specs.Words.{current_files, files_findings, has_finding, has_top_elsewhere, has_twins, named_file, none, with_if}

-- a stored file of a volume of `len` bytes, as a survey sees it
abbrev pub stored_as : ℕ → FileForm → BodyFile
stored_as len f = record { name = f.head.name; is_marked = is_marked f.head.state; is_at_end = end_of f == len }

-- ---- each finding

-- DuplicateName is a finding exactly if there are twins, and TopFile exactly if a volume top file is elsewhere
pub finds_twins : (fs : List BodyFile) → has_finding faults.DuplicateName (files_findings fs) ≡ has_twins (map named_file fs)
finds_twins fs = go (has_twins (map named_file fs)) (has_top_elsewhere (current_files fs)) where
  go : (t e : Bool) → has_finding faults.DuplicateName (with_if e faults.TopFile (with_if t faults.DuplicateName none)) ≡ t
  go true true = refl
  go true false = refl
  go false true = refl
  go false false = refl

pub finds_top : (fs : List BodyFile) → has_finding faults.TopFile (files_findings fs) ≡ has_top_elsewhere (current_files fs)
finds_top fs = go (has_twins (map named_file fs)) (has_top_elsewhere (current_files fs)) where
  go : (t e : Bool) → has_finding faults.TopFile (with_if e faults.TopFile (with_if t faults.DuplicateName none)) ≡ e
  go true true = refl
  go true false = refl
  go false true = refl
  go false false = refl

-- ---- twins

module _ (len : ℕ) where
  any_twin : (f : FileForm) (fs : List FileForm)
      → list_any (is_twin (named_file (stored_as len f))) (map named_file (map (stored_as len) fs)) ≡ list_any (is_stored_twin f) fs
  any_twin f [] = refl
  any_twin f (g ∷ gs) = ap (λ v. is_stored_twin f g || v) (any_twin f gs)

  pub twins_agree : (fs : List FileForm) → NoStoredTwins fs → has_twins (map named_file (map (stored_as len) fs)) ≡ false
  twins_agree [] h = refl
  twins_agree (f ∷ fs) h = or_both _ _ (any_twin f fs ∙ h.0) (twins_agree fs h.1)

  pub twins_found : (fs : List FileForm) → has_twins (map named_file (map (stored_as len) fs)) ≡ false → NoStoredTwins fs
  twins_found [] h = tt
  twins_found (f ∷ fs) h = let parts = or_parts _ _ h in (sym (any_twin f fs) ∙ parts.0, twins_found fs parts.1)

  -- ---- the files that are not superseded

  any_update : (f : FileForm) (fs : List FileForm)
      → list_any (superseded_by f) fs
      ≡ list_any (λ (g : BodyFile). replaced_by (named_file (stored_as len f)) (named_file g)) (map (stored_as len) fs)
  any_update f [] = refl
  any_update f (g ∷ gs) = ap (λ v. superseded_by f g || v) (any_update f gs)

  pub current_agree : (fs : List FileForm) → map (stored_as len) (current_in fs) ≡ current_files (map (stored_as len) fs)
  current_agree fs =
      kept_noted (stored_as len) (λ f. list_any (superseded_by f) fs)
      (λ f. list_any (λ (g : BodyFile). replaced_by (named_file f) (named_file g)) (map (stored_as len) fs)) fs
      (λ i f l. any_update (get_or fs i f) fs)

  -- ---- the volume top file

  pub top_agrees : (fs : List FileForm) → TopAtEnd len fs → has_top_elsewhere (map (stored_as len) fs) ≡ false
  top_agrees [] h = refl
  top_agrees (f ∷ []) h = go (tree.is_top f) (λ top. (Decides-eqb (end_of f) len).1 (h top)) where
    go : (t : Bool) → (t ≡ true → (end_of f == len) ≡ true) → (t && not (end_of f == len)) ≡ false
    go true h = rw (h refl) refl
    go false h = refl
  top_agrees (f ∷ g ∷ fs) h = or_both _ _ h.0 (top_agrees (g ∷ fs) h.1)

  pub top_found : (fs : List FileForm) → has_top_elsewhere (map (stored_as len) fs) ≡ false → TopAtEnd len fs
  top_found [] h = tt
  top_found (f ∷ []) h = λ top. eqb-true (end_of f) len (go (tree.is_top f) (end_of f == len) top h) where
    go : (t e : Bool) → t ≡ true → (t && not e) ≡ false → e ≡ true
    go true true top h = refl
    go true false top h = cc
    go false e top h = cc
  top_found (f ∷ g ∷ fs) h = let parts = or_parts _ _ h in (parts.0, top_found (g ∷ fs) parts.1)

  -- ---- all findings

  -- the names of the files have no finding exactly if the strict reading accepts them
  pub names_accepted : (fs : List FileForm) → NoStoredTwins fs → TopAtEnd len (current_in fs)
      → files_findings (map (stored_as len) fs) ≡ none
  names_accepted fs apart end =
      ap (λ v. with_if (has_top_elsewhere (current_files (map (stored_as len) fs))) faults.TopFile (with_if v faults.DuplicateName none))
      (twins_agree fs apart)
      ∙ ap (λ v. with_if v faults.TopFile none)
      (ap has_top_elsewhere (sym (current_agree fs)) ∙ top_agrees (current_in fs) end)

  pub names_free : (fs : List FileForm) → files_findings (map (stored_as len) fs) ≡ none → NoStoredTwins fs × TopAtEnd len (current_in fs)
  names_free fs free =
      let all : List BodyFile = map (stored_as len) fs in
      let no_twin : has_twins (map named_file all) ≡ false = sym (finds_twins all) ∙ ap (has_finding faults.DuplicateName) free in
      let no_top : has_top_elsewhere (current_files all) ≡ false = sym (finds_top all) ∙ ap (has_finding faults.TopFile) free in
      (twins_found fs no_twin, top_found (current_in fs) (ap has_top_elsewhere (current_agree fs) ∙ no_top))
