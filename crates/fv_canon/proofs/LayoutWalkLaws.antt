-- Facts for the two loops over the rows of a part of a volume. One loop adds the starts of the files of each volume
-- among the rows. The other loop skips these starts.
use Rattle.std.proofs.Common.{◌≡◌, ◌≢◌, ◌<◌, ◌≤◌, ℕ, [], ◌∷◌, ◌++◌, inl, inr, ◌∙◌, suc, List, append_assoc, add-zero, Any}
use Rattle.fv_base.proofs.Laws.{common_steps, cases_lt, subst, arith, true, false, true≢false, append-nil, length, drop, refl, sym, ap}
use Rattle.fv_base.specs.declared.fault.Fault.{Fault}
use Rattle.fv_rows.proofs.Laws.{file_inside}
use Rattle.fv_rows.specs.Words.{VolumeNode, FileNode, TreeRow, part_node, row_of, rows_inside}
use Rattle.fv_rows.specs.declared.tree_walk.Part.{Part}
use Rattle.fv_rows.specs.declared.tree_walk.Row.{Row}
use Rattle.fv_rows.specs.inner.RowVolumes.{volume_at, volumes_of}
use Rattle.fv_tree.specs.Words.{Meaning, Volume, NoFiles, MoreFiles, files_of, FileMeaning, Inside, volumes_in, volumes_in_file}
use Rattle.fv_canon.specs.inner.ImageOf.{starts_in}
use Rattle.fv_canon.specs.Words.{AreStarts, StartsOfEach, FirstUnplaced, UnfitHere}
use Rattle.fv_canon.proofs.DataBodyLaws.{data_held, data_volumes}
use Rattle.fv_canon.proofs.ImageParts.{ComesTo}
use Rattle.fv_canon.proofs.VolumeListLaws.{begins_own, passed_on}
use Rattle.fv_rows.specs.declared.tree_walk.Part.TheVariants as kinds

-- ---- the next row

-- if the next row is a volume, this volume is the first of the volumes among the rows that are left
volume_first : (left rest : List TreeRow) (r : Row) (v : Meaning) → left ≡ row_of r ∷ rest → part_node r.part ≡ VolumeNode v
    → volumes_of left ≡ record { depth = r.nesting; volume = v } ∷ volumes_of rest
volume_first left rest r v steps is = ap volumes_of steps ∙ ap (λ n. volume_at r.nesting n ++ volumes_of rest) is

-- a row that is not a volume adds no volume
other_part : (nesting : ℕ) (p : Part) → ((v : _) → p ≡ kinds.Volume v → ⊥) → volume_at nesting (part_node p) ≡ []
other_part nesting (kinds.Volume v) not = absurd (not v refl)
other_part nesting p not = refl

-- if the next row is not a volume, the volumes among the rows that are left are the volumes among the rows after it
pub other_first : (left rest : List TreeRow) (r : Row) → left ≡ row_of r ∷ rest → ((v : _) → r.part ≡ kinds.Volume v → ⊥)
    → volumes_of left ≡ volumes_of rest
other_first left rest r steps not = ap volumes_of steps ∙ ap (λ vs. vs ++ volumes_of rest) (other_part r.nesting r.part not)

-- ---- the starts of the files of the volumes among the rows

-- once the starts of the files of the volumes among the rows that are left are added, the starts of the files of all
-- volumes are there; if all earlier volumes fit, the first volume that does not fit is among the rows that are left
pub record Collects (rows left : List TreeRow) (starts : List ℕ) : Type 0 where
  pub all : (laid : List ℕ) → StartsOfEach AreStarts (volumes_of left) laid → StartsOfEach AreStarts (volumes_of rows) (starts ++ laid)
  pub unfit : (f : Fault) → FirstUnplaced (volumes_of left) 0 f → FirstUnplaced (volumes_of rows) 0 f
  pub count : starts_in (volumes_of left) ≤ starts_in (volumes_of rows)

pub collects_begun : (rows left : List TreeRow) (starts : List ℕ) → left ≡ rows → starts ≡ [] → Collects rows left starts
collects_begun rows left starts same none = rw (same, none) (record { all = λ laid lays. lays; unfit = λ f un. un; count = omega arith })

pub collects_done : (rows left : List TreeRow) (starts : List ℕ) → left ≡ [] → Collects rows left starts
    → StartsOfEach AreStarts (volumes_of rows) starts
collects_done rows left starts none before = rw append-nil at (before.all [] (rw none refl))

pub collects_other : (rows left rest : List TreeRow) (starts : List ℕ) (r : Row) → left ≡ row_of r ∷ rest
    → ((v : _) → r.part ≡ kinds.Volume v → ⊥) → Collects rows left starts → Collects rows rest starts
collects_other rows left rest starts r steps not before = grind (arith, common_steps, other_first)

module _ {rows left rest : List TreeRow} {starts : List ℕ} (r : Row) {v : Meaning} (steps : left ≡ row_of r ∷ rest)
    (node : part_node r.part ≡ VolumeNode v) (before : Collects rows left starts) where
  is : volumes_of left ≡ record { depth = r.nesting; volume = v } ∷ volumes_of rest
  is = volume_first left rest r v steps node

  pub collects_volume : (own next : List ℕ) → AreStarts v own → next ≡ starts ++ own → Collects rows rest next
  collects_volume own next placed joined = record {
    all = λ laid lays. rw (joined, append_assoc) (before.all (own ++ laid) (rw is (own, laid, refl, placed, lays)));
    unfit = λ f un. before.unfit f (subst (λ vs. FirstUnplaced vs 0 f) (sym is) (inr ((own, placed), un)));
    count = omega (arith, ap starts_in is, before.count);
  }

  pub collects_unfit : (f : Fault) → UnfitHere v r.nesting f → FirstUnplaced (volumes_of rows) 0 f
  collects_unfit f here = grind (arith, common_steps)

  pub collects_some : 0 < length (files_of v) → 0 < starts_in (volumes_of rows)
  collects_some some = omega (arith, ap starts_in is, before.count, some)

-- ---- the starts that follow

-- if the next row is a volume, the starts begin with the starts of its own files, and go on with the starts of the
-- files of the volumes that follow
pub passed_next : (left rest : List TreeRow) (r : Row) (v : Meaning) (count : ℕ) (starts last : List ℕ) → left ≡ row_of r ∷ rest
    → part_node r.part ≡ VolumeNode v → length (files_of v) ≡ count → ComesTo (volumes_of left) starts last
    → (count ≤ length starts) × ComesTo (volumes_of rest) (drop count starts) last
passed_next left rest r v count starts last steps node many comes =
    let own : Inside = record { depth = r.nesting; volume = v } in
    let (here, behind) = passed_on (own ∷ []) (volumes_of rest) starts last (rw (volume_first left rest r v steps node) at comes) in
    ((begins_own own [] count starts many here).0, rw (add-zero, many) at behind)

-- the volumes in a file are the volumes among the rows of its contents
pub file_volumes : (m : FileMeaning) → volumes_of (rows_inside 0 0 (FileNode m)) ≡ volumes_in_file m
file_volumes m = file_inside m ∙ sym (data_held m) ∙ data_volumes m

-- ---- where memory can run out

-- an allocation for no items always succeeds, so a list whose allocation failed has items
pub some_items : {A : Type 0} (xs : List A) → (length xs ≡ 0 → false ≡ true) → 0 < length xs
some_items [] none = absurd (true≢false (sym (none refl)))
some_items (x ∷ xs) none = omega arith

-- a volume without files contains no volumes, so there are no starts of files
pub starts_need_file : (m : Meaning) → 0 < starts_in (volumes_in m) → files_of m ≢ []
starts_need_file (Volume h NoFiles) some none = absurd (omega (arith, some))
starts_need_file (Volume h (MoreFiles f fs)) some none = cc

-- if there are starts of the files of some volumes, one of these volumes has files
pub starts_need_some : (vs : List Inside) → 0 < starts_in vs → Any (λ v. files_of v.volume ≢ []) vs
starts_need_some [] some = absurd (omega (arith, some))
starts_need_some (v ∷ vs) some = elim (cases_lt 0 (length (files_of v.volume))) [
  | inl has ↦ (0, v, omega arith, refl, λ none. omega (arith, has, ap length none))
  | inr none ↦ let (k, w, less, is, has) = starts_need_some vs (omega (arith, some, none)) in (suc k, w, omega (arith, less), is, has)
]
