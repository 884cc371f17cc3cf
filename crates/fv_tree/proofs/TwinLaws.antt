-- At most one file is the first that has an earlier twin. Two current files do not have the same name, so at most one
-- of them is a volume top file that is not at the end. The steps:
-- 1. At most one file is the first that has an earlier twin (`one_twin`).
-- 2. Files without twins still have none if some files are left out (`no_twins_kept`), and two of them at different
--    places are not twins (`apart`).
-- 3. Neither of two current files replaces the other, so their names differ (`names_differ`).
-- 4. Volume top files have the same name, so two of them are not both current (`two_tops`), and at most one of them is
--    not at the end (`one_top`).
use Rattle.std.proofs.Common.{◌≡◌, ℕ, [], ◌∷◌, ◌++◌, Bool, true, false, List, refl, sym, ◌∙◌, arith, not}
use Rattle.fv_base.proofs.Laws.{common_steps, AllByRecursion, filter, list_any, not-true, recursion_from_All, bytes_eq-Decides, First, Earlier}
use Rattle.fv_base.proofs.Laws.{after_middle, in_middle, or_both, or_parts, two_cuts}
use Rattle.std.proofs.lemmas.Bool.{cond_both}
use Rattle.std.proofs.lemmas.List.Elements.{filter_passes}
use Rattle.std.proofs.lemmas.List.Folds.{list_any-append}
use Rattle.fv_tree.specs.Words.{HasTwin, TopElsewhere, FileForm, is_stored_twin, superseded_by, NoStoredTwins, current_in, is_top}
use Rattle.fv_tree.specs.inner.NameForms.{same_stored_name}
use Rattle.fv_tree.proofs.NamesFaultLaws.{twin_none}

-- ---- the first file that has an earlier twin

-- two cuts, neither of which is before the other, are at the same file
once : (before : List FileForm) (f : FileForm) (after before' : List FileForm) (g : FileForm) (after' : List FileForm)
    → before ++ (f ∷ after) ≡ before' ++ (g ∷ after') → (Earlier before f after before' g after' → ⊥)
    → (Earlier before' g after' before f after → ⊥) → f ≡ g
once before f after before' g after' is not not' = grind (arith, two_cuts before f after before' g after' is)

-- at most one of the files is the first that has an earlier twin
pub one_twin : (f g : FileForm) (fs : List FileForm) → HasTwin First f fs → HasTwin First g fs → f ≡ g
one_twin f g fs (before, after, is, none, has) (before', after', is', none', has') =
    once before f after before' g after' (sym is ∙ is') (λ e. twin_none First f before' (before, e.0, e.1, none, has) none')
    (λ e. twin_none First g before (before', e.0, e.1, none', has') none)

-- ---- some of the files, by a test

-- a test that is false of all files is false of the files that a filter keeps
none_kept : (p q : FileForm → Bool) (fs : List FileForm) → list_any q fs ≡ false → list_any q (filter p fs) ≡ false
none_kept p q [] h = refl
none_kept p q (f ∷ fs) h =
    let parts = or_parts (q f) (list_any q fs) h in
    let rest = none_kept p q fs parts.1 in
    cond_both (p f) _ _ (λ l. list_any q l ≡ false) (λ _. or_both (q f) _ parts.0 rest) (λ _. rest)

-- if files have no twins, the files that a filter keeps have none
no_twins_kept : (p : FileForm → Bool) (fs : List FileForm) → NoStoredTwins fs → NoStoredTwins (filter p fs)
no_twins_kept p [] h = tt
no_twins_kept p (f ∷ fs) h =
    let rest = no_twins_kept p fs h.1 in
    cond_both (p f) _ _ NoStoredTwins (λ _. (none_kept p (is_stored_twin f) fs h.0, rest)) (λ _. rest)

-- a test that is false of all items is false of each item, and of all items after it
any_cut : (q : FileForm → Bool) (before : List FileForm) (f : FileForm) (after : List FileForm)
    → list_any q (before ++ (f ∷ after)) ≡ false → (q f ≡ false) × (list_any q after ≡ false)
any_cut q before f after h = grind (arith, common_steps, or_parts, list_any-append)

-- if files have no twins, two of them at different places are not twins
apart : (before : List FileForm) (f : FileForm) (mid : List FileForm) (g : FileForm) (after : List FileForm)
    → NoStoredTwins (before ++ (f ∷ (mid ++ (g ∷ after)))) → is_stored_twin f g ≡ false
apart [] f mid g after none = (any_cut (is_stored_twin f) mid g after none.0).0
apart (h ∷ hs) f mid g after none = apart hs f mid g after none.1

-- ---- two files with the same name are not both current

-- whether none of the files replaces this file
abbrev is_current : List FileForm → FileForm → Bool
is_current fs f = not (list_any (superseded_by f) fs)

-- two current files at different places have different names
pub names_differ : (fs before : List FileForm) (f : FileForm) (mid : List FileForm) (g : FileForm) (after : List FileForm) → NoStoredTwins fs
    → current_in fs ≡ before ++ (f ∷ (mid ++ (g ∷ after))) → same_stored_name f g ≡ true → same_stored_name g f ≡ true → ⊥
names_differ fs before f mid g after none is forth back = grind (arith, common_steps, twin, over, under) where
  whole : List FileForm
  whole = before ++ (f ∷ (mid ++ (g ∷ after)))

  twin : is_stored_twin f g ≡ false
  twin = apart before f mid g after (rw is at (no_twins_kept (is_current fs) fs none))

  all : AllByRecursion (λ h. is_current fs h ≡ true) whole
  all = rw is at (recursion_from_All (λ h. is_current fs h ≡ true) (filter (is_current fs) fs) (filter_passes (is_current fs) fs))

  -- a current file is not replaced by a current file
  not_replaced : (h : FileForm) → is_current fs h ≡ true → list_any (superseded_by h) whole ≡ false
  not_replaced h current = grind (arith, common_steps, none_kept, not-true) steps 150000

  over : superseded_by f g ≡ false
  over = grind (arith, common_steps, any_cut, not_replaced, in_middle, all) steps 150000

  under : superseded_by g f ≡ false
  under =
      (any_cut (superseded_by g) before f (mid ++ (g ∷ after))
      (not_replaced g (in_middle (λ h. is_current fs h ≡ true) mid g after
      (after_middle (λ h. is_current fs h ≡ true) before f (mid ++ (g ∷ after)) all)))).0

-- ---- the volume top file

-- two volume top files have the same name
top_names : (f g : FileForm) → is_top f ≡ true → is_top g ≡ true → same_stored_name f g ≡ true
top_names f g p q = grind (arith, common_steps, bytes_eq-Decides)

-- two volume top files at different places are not both current
two_tops : (fs before : List FileForm) (f : FileForm) (after before' : List FileForm) (g : FileForm) (after' : List FileForm) → NoStoredTwins fs
    → current_in fs ≡ before ++ (f ∷ after) → is_top f ≡ true → is_top g ≡ true → Earlier before f after before' g after' → ⊥
two_tops fs before f after before' g after' none is top top' (mid, late, rest) = grind (arith, common_steps, names_differ, top_names)

-- at most one current file is a volume top file, so at most one is at the wrong place
pub one_top : (len : ℕ) (f g : FileForm) (fs : List FileForm) → NoStoredTwins fs → TopElsewhere len f (current_in fs)
    → TopElsewhere len g (current_in fs) → f ≡ g
one_top len f g fs none (before, after, is, top, off) (before', after', is', top', off') =
    once before f after before' g after' (sym is ∙ is') (two_tops fs before f after before' g after' none is top top')
    (two_tops fs before' g after' before f after none is' top' top)
