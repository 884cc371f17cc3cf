-- Files with a twin, or with a volume top file that is not at the end, are not the files of a volume.
use Rattle.std.proofs.Common.{◌≡◌, ℕ, [], ◌∷◌, ◌++◌, List, length-append, Bool, true, refl, subst, arith, inl, inr}
use Rattle.fv_base.proofs.Laws.{common_steps, list_any, list_any_at, bytes_eq-Decides, Which, and_join, and_split, up_is_not_down}
use Rattle.std.proofs.lemmas.Bool.{or_cases}
use Rattle.std.proofs.lemmas.List.{get_or_at}
use Rattle.fv_base.specs.declared.fault.Fault.{Fault}
use Rattle.fv_tree.specs.Words.{HasTwin, NamesFault, FileForm, is_stored_twin, NoStoredTwins, current_in, is_top, end_of, TopAtEnd}
use Rattle.fv_tree.specs.inner.NameForms.{same_stored_name}

pub same_name_back : (f g : FileForm) → same_stored_name f g ≡ true → same_stored_name g f ≡ true
same_name_back f g h = grind (arith, common_steps, bytes_eq-Decides)

pub twin_back : (f g : FileForm) → is_stored_twin f g ≡ true → is_stored_twin g f ≡ true
twin_back f g h = grind (arith, common_steps, and_split, and_join, same_name_back)

-- a test that is true of an item of a list is true of some item of the list
any_behind : (p : FileForm → Bool) (xs : List FileForm) (f : FileForm) (ys : List FileForm) → p f ≡ true
    → list_any p (xs ++ (f ∷ ys)) ≡ true
any_behind p xs f ys h = grind (arith, common_steps, list_any_at, length-append, get_or_at)

-- if a file has an earlier twin, some of the files are twins
twin_not : (before : List FileForm) (f : FileForm) (after : List FileForm) → NoStoredTwins (before ++ (f ∷ after))
    → list_any (is_stored_twin f) before ≡ true → ⊥
twin_not [] f after none h = cc
twin_not (g ∷ gs) f after none h = elim (or_cases (is_stored_twin f g) (list_any (is_stored_twin f) gs) h) [
  | inl t ↦ up_is_not_down _ (any_behind (is_stored_twin g) gs f after (twin_back f g t)) none.0
  | inr t ↦ twin_not gs f after none.1 t
]

pub twin_none : (which : Which) (f : FileForm) (fs : List FileForm) → HasTwin which f fs → NoStoredTwins fs → ⊥
twin_none which f fs (before, after, is, none, has) all = twin_not before f after (subst NoStoredTwins is all) has

-- if a volume top file is not the last file or does not end at the end, the files are not the files of a volume
top_not : (n : ℕ) (before : List FileForm) (f : FileForm) (after : List FileForm) → TopAtEnd n (before ++ (f ∷ after))
    → is_top f ≡ true → (after ≡ [] → end_of f ≡ n → ⊥) → ⊥
top_not n [] f [] all top off = off refl (all top)
top_not n [] f (g ∷ gs) all top off = up_is_not_down (is_top f) top all.0
top_not n (x ∷ []) f after all top off = top_not n [] f after all.1 top off
top_not n (x ∷ y ∷ xs) f after all top off = top_not n (y ∷ xs) f after all.1 top off

-- if the names of the files have a fault, there are twins, or a volume top file that is not at the end
pub names_wrong : (which : Which) (n : ℕ) (fs : List FileForm) (f : Fault) → NamesFault which n fs f → NoStoredTwins fs × TopAtEnd n (current_in fs) → ⊥
names_wrong which n fs f (inl (x, twin, is)) right = twin_none which x fs twin right.0
names_wrong which n fs f (inr (none, x, (before, after, cut, top, off), is)) right = top_not n before x after (rw cut at right.1) top off
