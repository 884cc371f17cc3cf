-- Files as they are stored, and the index of their names: the names and marks in the index are the names and marks of
-- the files.
use Rattle.std.proofs.Common.{◌≡◌, ◌<◌, ℕ, [], ◌∷◌, List, length, take, get_or, map, Bool, true, false, refl, sym}
use Rattle.fv_base.proofs.Laws.{ap, ◌∙◌, arith, not, lt-ltb, le-ltb, AllByRecursion, Contains, filter, list_any, position, position_or_len}
use Rattle.fv_base.proofs.Laws.{option_and_then, get_or-map, length-map, slice_get_past, kept_noted, one_behind, common_steps}
use Rattle.std.specs.List.{find, items_where_true, slice_get}
use Rattle.std.specs.List.Retain.{IsFiltered, ReturnsInTurn}
use Rattle.std.proofs.lemmas.List.{take-map}
use Rattle.std.proofs.lemmas.List.Folds.{find_at}
use Rattle.fv_base.specs.declared.guid.Guid.{Guid}
use Rattle.fv_file.specs.declared.state.FileState.TheVariants as states
use Rattle.fv_names.specs.Words.{NamedFile, names_in, is_name, is_twin, NoTwins, replaced_by, NeighboursDiffer, Entry, IsIndex}
use Rattle.fv_names.proofs.Laws.{apart_twins, no_entry, no_named, none_replaced}
use Rattle.fv_tree.specs.Words.{MeansFile, Pairwise, StreamRelation, FileForm, NoStoredTwins, current_in, is_stored_twin, superseded_by, is_named, file_form}
use Rattle.fv_tree.specs.Words.{FileMeaning, File, file_name_of}
use Rattle.fv_tree.specs.declared.volume_files.LocatedFile.{LocatedFile}
use Rattle.fv_tree.specs.inner.NameForms.{named_file}

-- the value that a loop over files reads after the last file
abbrev pub no_file : LocatedFile
no_file = record {
  name = record { bytes = [] };
  offset = 0;
  len = 0;
  kind = 0;
  attributes = record { 0 = 0 };
  header_sum = 0;
  state = states.Free;
}

-- ---- names

-- files and their meanings have the same names
pub read_names : (S : StreamRelation) (volume : List ℕ) (ss : List LocatedFile) (ms : List FileMeaning)
    → Pairwise (MeansFile S) (map (file_form volume) ss) ms
    → map file_name_of ms ≡ names_in (map named_file ss)
read_names S volume [] [] p = refl
read_names S volume (s ∷ ss) (File name kind attributes content ∷ ms) p = rw (p.0.0, read_names S volume ss ms p.1)
read_names S volume _ _ p = absurd p

-- the first file with a name has the position of the first such name
place_named : (name : Guid) (fs : List FileMeaning)
    → position_or_len (is_name name) (map file_name_of fs) ≡ position_or_len (is_named name) fs
place_named name [] = refl
place_named name (f ∷ fs) = rw (place_named name fs)

-- so a number that was found among the names is the number of the file
pub looked_up : (name : Guid) (fs : List FileMeaning) → position (is_name name) (map file_name_of fs) ≡ position (is_named name) fs
looked_up name fs = rw (place_named name fs, length-map fs file_name_of)

-- the file at the position of the first file for which a test is true is this first file
pub file_there : (test : FileMeaning → Bool) (fs : List FileMeaning) → option_and_then (slice_get fs) (position test fs) ≡ find test fs
file_there test fs = grind (arith, common_steps, lt-ltb, find_at, le-ltb, slice_get_past) steps 150000

-- ---- twins and updates

-- if a closure that does not change returns a test of each item of a list, `retain` keeps the items of a filter
module _ {X F : Type 0} (R : F → X → Bool → F → Type 0) (test : X → Bool) (f : F) where
  same_kept : (bs : List Bool) (xs : List X) (g : F) → ((x : X) (t : Bool) (f' : F) → Contains xs x → R f x t f' → (t ≡ test x) × (f' ≡ f))
      → length bs ≡ length xs → ReturnsInTurn R f bs xs g → items_where_true bs xs ≡ filter test xs
  same_kept [] [] g says long turn = refl
  same_kept [] (x ∷ xs) g says long turn = absurd (omega (arith, long))
  same_kept (t ∷ bs) [] g says long turn = absurd turn
  same_kept (t ∷ bs) (x ∷ xs) g says long (f', here, turn) =
      let (is, same) = says x t f' (0, omega arith, refl) here in
      kept t is (same_kept bs xs g (λ y u h has. says y u h (one_behind x xs y has)) (omega (arith, long)) (rw same at turn))
    where
      kept : (u : Bool) → u ≡ test x → items_where_true bs xs ≡ filter test xs → items_where_true (u ∷ bs) (x ∷ xs) ≡ filter test (x ∷ xs)
      kept u is rest = grind (arith, common_steps)

  pub retained : (xs : List X) → ((x : X) (t : Bool) (f' : F) → Contains xs x → R f x t f' → (t ≡ test x) × (f' ≡ f))
      → (ys : List X) → IsFiltered R f xs ys → ys ≡ filter test xs
  retained xs says ys (bs, g, long, turn, is) = is ∙ same_kept bs xs g says long turn

-- a filter that drops the files for which a test is true keeps all files if the test is false of each
all_kept : (test : NamedFile → Bool) (ss : List LocatedFile) → AllByRecursion (λ f. test f ≡ false) (map named_file ss)
    → filter (λ s. not (test (named_file s))) ss ≡ ss
all_kept test [] h = refl
all_kept test (s ∷ ss) h = rw (h.0, all_kept test ss h.1)

module _ (b : List ℕ) where
  -- if two tests agree on each file, one is true of some file exactly if the other is true of some file
  same_any : (p : FileForm → Bool) (q : NamedFile → Bool) → ((s : LocatedFile) → p (file_form b s) ≡ q (named_file s))
      → (ss : List LocatedFile) → list_any p (map (file_form b) ss) ≡ list_any q (map named_file ss)
  same_any p q same [] = refl
  same_any p q same (s ∷ ss) = rw (same s, same_any p q same ss)

  -- a file has a twin among some files exactly if its name and mark have a twin among the names and marks of the files
  twins_any : (s : LocatedFile) (ss : List LocatedFile)
      → list_any (is_stored_twin (file_form b s)) (map (file_form b) ss) ≡ list_any (is_twin (named_file s)) (map named_file ss)
  twins_any s ss = same_any (is_stored_twin (file_form b s)) (is_twin (named_file s)) (λ x. refl) ss

  -- if the names and marks of the files have no twins, the files have none
  pub twins_from : (ss : List LocatedFile) → NoTwins is_twin (map named_file ss) → NoStoredTwins (map (file_form b) ss)
  twins_from [] h = tt
  twins_from (s ∷ ss) h = (twins_any s ss ∙ h.0, twins_from ss h.1)

  -- the same is true of the first n files
  pub front_twins : (n : ℕ) (ss : List LocatedFile) → NoTwins is_twin (take n (map named_file ss)) → NoStoredTwins (take n (map (file_form b) ss))
  front_twins n ss h = rw (take-map (file_form b) n ss) (twins_from (take n ss) (rw (take-map named_file n ss) at h))

  -- if the name and mark of the next file have a twin among the names and marks of the first n files, the next file has
  -- a twin among the first n files
  pub twin_after : (n : ℕ) (ss : List LocatedFile) → n < length ss
      → list_any (is_twin (get_or (map named_file ss) n no_named)) (take n (map named_file ss)) ≡ true
      → list_any (is_stored_twin (file_form b (get_or ss n no_file))) (take n (map (file_form b) ss)) ≡ true
  twin_after n ss l h =
      let named = rw (take-map named_file n ss, get_or-map named_file ss n no_file no_named l) at h in
      rw (take-map (file_form b) n ss, twins_any (get_or ss n no_file) (take n ss)) named

  -- ---- the files that are kept

  -- the files that no other file replaces are the current files
  pub kept_current : (ss : List LocatedFile)
      → map (file_form b) (filter (λ s. not (list_any (replaced_by (named_file s)) (map named_file ss))) ss)
      ≡ current_in (map (file_form b) ss)
  kept_current ss =
      kept_noted (file_form b) (λ s. list_any (replaced_by (named_file s)) (map named_file ss))
      (λ f. list_any (superseded_by f) (map (file_form b) ss)) ss
      (λ i s l. sym (same_any (superseded_by (file_form b (get_or ss i s))) (replaced_by (named_file (get_or ss i s))) (λ x. refl) ss))

  module _ (ss : List LocatedFile) (es : List Entry) (index : IsIndex (names_in (map named_file ss)) es) (apart : NeighboursDiffer es) where
    -- files with different names have no twins
    pub without_twins : NoStoredTwins (map (file_form b) ss)
    without_twins = twins_from ss (apart_twins (map named_file ss) es index no_named no_entry apart)

    -- and no file is replaced, so all files are current
    pub all_current : current_in (map (file_form b) ss) ≡ map (file_form b) ss
    all_current =
        sym (kept_current ss) ∙ ap (map (file_form b)) (all_kept (λ f. list_any (replaced_by f) (map named_file ss)) ss
        (none_replaced (map named_file ss) es index no_named no_entry apart))
