-- The names of files. The steps:
-- 1. No two current files of a body have the same name (`current_apart`). Files with different names have no twins
--    (`no_twins`).
-- 2. No file of a written body is marked (`forms_unmarked`), so all these files are current (`all_current`).
-- 3. Only the last file of a body can be a volume top file (`top_last`). If this is true of a written body, the volume
--    top file ends where the volume ends (`forms_top`).
use Rattle.std.proofs.Common.{◌≡◌, ◌+◌, ℕ, [], ◌∷◌, ◌++◌, false, List, refl, ap, map, not, arith, append_assoc}
use Rattle.fv_base.proofs.Laws.{common_steps, AllByRecursion, filter, list_any, bytes_eq, bytes_of, up_to_8, or_both, or_parts}
use Rattle.std.proofs.lemmas.Bool.{and_right, false_from_ne_true}
use Rattle.fv_base.specs.declared.flash.Polarity.{Polarity}
use Rattle.fv_placement.specs.Words.{StartsFollow}
use Rattle.fv_tree.specs.Words.{FileForm, is_marked, is_stored_twin, NoStoredTwins, superseded_by, current_in, top_name, TopAtEnd}
use Rattle.fv_tree.specs.inner.NameForms.{same_stored_name}
use Rattle.fv_canon.specs.Words.{StoredFile, stored_len}
use Rattle.fv_canon.proofs.ImageParts.{stored_item}
use Rattle.fv_canon.proofs.StoredTilingLaws.{forms_of}
use Rattle.fv_tree.proofs.Laws.{names_differ, same_name_back}

-- ---- names
abbrev pub stored_names : List FileForm → List (List ℕ)
stored_names fs = map (λ f. bytes_of f.head.name) fs

abbrev pub names_of : List StoredFile → List (List ℕ)
names_of fs = map (λ f. bytes_of f.name) fs

-- no two of the names are equal
abbrev pub NamesApart : List (List ℕ) → Type 0
NamesApart [] = Unit {0}
NamesApart (n ∷ ns) = (list_any (bytes_eq n) ns ≡ false) × NamesApart ns

-- no current file after a current file f has the name of f
none_named : (fs before : List FileForm) (f : FileForm) (mid xs : List FileForm) → NoStoredTwins fs → current_in fs ≡ before ++ (f ∷ (mid ++ xs))
    → list_any (bytes_eq (bytes_of f.head.name)) (stored_names xs) ≡ false
none_named fs before f mid [] none is = refl
none_named fs before f mid (x ∷ xs) none is = or_both (same_stored_name f x) (list_any (bytes_eq (bytes_of f.head.name)) (stored_names xs))
    (false_from_ne_true (same_stored_name f x) (λ same. names_differ fs before f mid x xs none is same (same_name_back f x same)))
    (none_named fs before f (mid ++ x ∷ []) xs none (rw append_assoc is))

names_apart : (fs before xs : List FileForm) → NoStoredTwins fs → current_in fs ≡ before ++ xs → NamesApart (stored_names xs)
names_apart fs before [] none is = tt
names_apart fs before (x ∷ xs) none is = (none_named fs before x [] xs none is, names_apart fs (before ++ x ∷ []) xs none (rw append_assoc is))

-- no two of the names of current files are equal
pub current_apart : (fs : List FileForm) → NoStoredTwins fs → NamesApart (stored_names (current_in fs))
current_apart fs none = names_apart fs [] (current_in fs) none refl

-- ---- files of a written body
-- no file is marked for update
abbrev pub NoneMarked : List FileForm → Type 0
NoneMarked fs = AllByRecursion (λ f. is_marked f.head.state ≡ false) fs

pub forms_unmarked : (p : Polarity) (fs : List StoredFile) (ss : List ℕ) → NoneMarked (forms_of p fs ss)
forms_unmarked p (f ∷ fs) (s ∷ ss) = (refl, forms_unmarked p fs ss)
forms_unmarked p fs ss = tt

replaces_none : (f : FileForm) → is_marked f.head.state ≡ false → (all : List FileForm) → list_any (superseded_by f) all ≡ false
replaces_none f e [] = refl
replaces_none f e (g ∷ gs) = rw e (rw (and_right (same_stored_name f g) false refl) (replaces_none f e gs))

all_kept : (all xs : List FileForm) → NoneMarked xs → filter (λ f. not (list_any (superseded_by f) all)) xs ≡ xs
all_kept all [] none = refl
all_kept all (f ∷ fs) none = rw (replaces_none f none.0 all) (ap (λ (xs : List FileForm). f ∷ xs) (all_kept all fs none.1))

pub all_current : (xs : List FileForm) → NoneMarked xs → current_in xs ≡ xs
all_current xs none = all_kept xs xs none

-- a file has no twin among files that do not have its name
twins_none : (f : FileForm) (xs : List FileForm) → list_any (bytes_eq (bytes_of f.head.name)) (stored_names xs) ≡ false
    → list_any (is_stored_twin f) xs ≡ false
twins_none f [] e = refl
twins_none f (x ∷ xs) e =
    grind (arith, common_steps, or_parts, twins_none f xs (or_parts (same_stored_name f x) (list_any (bytes_eq (bytes_of f.head.name)) (stored_names xs)) e).1) steps 400000

pub no_twins : (xs : List FileForm) → NamesApart (stored_names xs) → NoStoredTwins xs
no_twins [] h = tt
no_twins (f ∷ fs) h = (twins_none f fs h.0, no_twins fs h.1)

-- ---- the volume top file
-- only the last name can be the name of the volume top file
abbrev pub TopLast : List (List ℕ) → Type 0
TopLast (n ∷ k ∷ ns) = (bytes_eq n top_name ≡ false) × TopLast (k ∷ ns)
TopLast ns = Unit {0}

pub top_last : (length : ℕ) (xs : List FileForm) → TopAtEnd length xs → TopLast (stored_names xs)
top_last length (f ∷ g ∷ fs) h = (h.0, top_last length (g ∷ fs) h.1)
top_last length fs h = tt

pub forms_top : (p : Polarity) (total e : ℕ) (fs : List StoredFile) (ss : List ℕ) → TopLast (names_of fs)
    → StartsFollow total e (map stored_item fs) ss → TopAtEnd total (forms_of p fs ss)
forms_top p total e (f ∷ []) (s ∷ []) h follow = λ top. follow.0.at_end top
forms_top p total e (f ∷ g ∷ fs) (s ∷ t ∷ ss) h follow = (h.0, forms_top p total (up_to_8 (s + stored_len f)) (g ∷ fs) (t ∷ ss) h.1 follow.1)
forms_top p total e (f ∷ fs) (s ∷ ss) h follow = absurd follow.1
forms_top p total e fs ss h follow = tt

-- the files of a written body have the names of the stored files
pub form_names : (p : Polarity) (total e : ℕ) (fs : List StoredFile) (ss : List ℕ) → StartsFollow total e (map stored_item fs) ss
    → stored_names (forms_of p fs ss) ≡ names_of fs
form_names p total e [] ss follow = refl
form_names p total e (f ∷ fs) [] follow = absurd follow
form_names p total e (f ∷ fs) (s ∷ ss) follow =
    ap (λ (ns : List (List ℕ)). bytes_of f.name ∷ ns) (form_names p total (up_to_8 (s + stored_len f)) fs ss follow.1)
