-- Where a search ends: in the searched volume, if it has the file (`own_end`); in a volume that has the file
-- (`found_in`); and nowhere, only if no volume among the rows has the file (`lacking_rows`).
use Rattle.std.proofs.Common.{◌≡◌, ◌⊎◌, ◌∙◌, ℕ, zero, suc, List, [], ◌∷◌, Option, None, Some, Result, Ok, Err, inl, inr, refl, subst, sym}
use Rattle.fv_base.proofs.Laws.{AllByRecursion}
use Rattle.fv_base.specs.declared.guid.Guid.{Guid}
use Rattle.fv_open.specs.declared.fault.OpenFault.{OpenFault}
use Rattle.fv_budget.specs.Words.{contents_limit, packed_frame}
use Rattle.fv_open.specs.declared.way.Way.{Way}
use Rattle.fv_rows.specs.Words.{NodeMeaning, VolumeNode, FileNode, SectionNode, TreeRow}
use Rattle.fv_section.specs.Words.{FrameForm}
use Rattle.fv_tree.specs.Words.{FileMeaning, Meaning, file_named, files_of}
use Rattle.fv_extract.specs.Words.{ContentsOver, HasNoVolume, InVolume, LacksFile, Nowhere, OpenedOver, PackedOver}
use Rattle.fv_extract.specs.Words.{PackedRelation, PackedSearch, PartSearch, RowsSearch, SearchEnd, SectionSearch, end_in}
use Rattle.fv_extract.specs.declared.progress.Progress.{Progress}

-- ---- a volume that has the file

-- a row of a volume that has the file
pub own_end : (name : Guid) (P : PackedRelation) (s : Progress) (depth nesting number : ℕ) (m : Meaning) (rows : List TreeRow)
    (f : FileMeaning) (end : SearchEnd) → file_named name (files_of m) ≡ Some f
    → RowsSearch name P s (record { depth = depth; nesting = nesting; number = number; node = VolumeNode m } ∷ rows) end
    → end ≡ InVolume m s
own_end name P s depth nesting number m rows f end has (inl (v, t, here, is)) = is ∙ rw has at here
own_end name P s depth nesting number m rows f end has (inr (t, here, more)) = let other = rw has at here in absurd cc

pub own_search : (name : Guid) (P : PackedRelation) (s : Progress) (depth nesting number : ℕ) (m : Meaning) (rows : List TreeRow)
    (f : FileMeaning) → file_named name (files_of m) ≡ Some f
    → RowsSearch name P s (record { depth = depth; nesting = nesting; number = number; node = VolumeNode m } ∷ rows) (InVolume m s)
own_search name P s depth nesting number m rows f has = inl (m, s, rw has refl, refl)

-- ---- rows without a volume

quiet_part : (name : Guid) (P : PackedRelation) (s : Progress) (node : NodeMeaning) (end : SearchEnd) → HasNoVolume node
    → PartSearch name P s node end → end ≡ Nowhere s
quiet_part name P s (VolumeNode m) end none part = absurd none
quiet_part name P s (FileNode f) end none part = part
quiet_part name P s (SectionNode section) end none part = rw none at part

pub silent_part : (name : Guid) (P : PackedRelation) (s : Progress) (node : NodeMeaning) → HasNoVolume node
    → PartSearch name P s node (Nowhere s)
silent_part name P s (VolumeNode m) none = absurd none
silent_part name P s (FileNode f) none = refl
silent_part name P s (SectionNode section) none = rw none refl

not_both : (m : Meaning) (s t : Progress) → InVolume m s ≡ Nowhere t → ⊥
not_both m s t e = cc

same_progress : (s t : Progress) → Nowhere s ≡ Nowhere t → s ≡ t
same_progress s t e = cc

pub quiet_end : (name : Guid) (P : PackedRelation) (s : Progress) (rows : List TreeRow) (end : SearchEnd)
    → AllByRecursion (λ r. HasNoVolume r.node) rows → RowsSearch name P s rows end → end ≡ Nowhere s
quiet_end name P s [] end none is = is
quiet_end name P s (r ∷ rows) end (none, all) (inl (v, t, here, is)) =
    absurd (not_both v t s (quiet_part name P s r.node (InVolume v t) none here))
quiet_end name P s (r ∷ rows) end (none, all) (inr (t, here, more)) =
    let same = same_progress t s (quiet_part name P s r.node (Nowhere t) none here) in
    quiet_end name P s rows end all (rw same at more)

pub quiet_search : (name : Guid) (P : PackedRelation) (s : Progress) (rows : List TreeRow)
    → AllByRecursion (λ r. HasNoVolume r.node) rows → RowsSearch name P s rows (Nowhere s)
quiet_search name P s [] none = refl
quiet_search name P s (r ∷ rows) (none, all) = inr (s, silent_part name P s r.node none, quiet_search name P s rows all)

-- a volume, followed by rows without a volume
abbrev Alone : Guid → PackedRelation → Progress → Meaning → List TreeRow → Option FileMeaning → SearchEnd → Type 0
Alone name P s m rows x end =
    ((v : Meaning) × (t : Progress) × (InVolume v t ≡ end_in x m s) × (end ≡ InVolume v t))
    ⊎ ((t : Progress) × (Nowhere t ≡ end_in x m s) × RowsSearch name P t rows end)

pub alone_end : (name : Guid) (P : PackedRelation) (s : Progress) (m : Meaning) (rows : List TreeRow) (x : Option FileMeaning) (end : SearchEnd)
    → AllByRecursion (λ r. HasNoVolume r.node) rows → Alone name P s m rows x end → end ≡ end_in x m s
alone_end name P s m rows x end none (inl (v, t, here, is)) = is ∙ here
alone_end name P s m rows x end none (inr (t, here, more)) = quiet_end name P t rows end none more ∙ here

pub alone_search : (name : Guid) (P : PackedRelation) (s : Progress) (m : Meaning) (rows : List TreeRow) (x : Option FileMeaning)
    → AllByRecursion (λ r. HasNoVolume r.node) rows → Alone name P s m rows x (end_in x m s)
alone_search name P s m rows (Some f) none = inl (m, s, refl, refl)
alone_search name P s m rows None none = inr (s, refl, quiet_search name P s rows none)

-- ---- the volume in which a search ends

-- the volume has a file with the name
abbrev HasFile : Guid → Meaning → Type 0
HasFile name v = (f : FileMeaning) × (file_named name (files_of v) ≡ Some f)

same_volume : (m v : Meaning) (s t : Progress) → InVolume v t ≡ InVolume m s → v ≡ m
same_volume m v s t e = cc

found_volume : (name : Guid) (x : Option FileMeaning) (m v : Meaning) (s t : Progress) → file_named name (files_of m) ≡ x
    → InVolume v t ≡ end_in x m s → HasFile name v
found_volume name (Some f) m v s t has e = (f, subst (λ u. file_named name (files_of u) ≡ Some f) (sym (same_volume m v s t e)) has)
found_volume name None m v s t has e = absurd (not_both v t s e)

-- sections in which a search ends only in a volume that has the file
abbrev Finds : Guid → PackedRelation → Type 0
Finds name P = (s : Progress) (frame : FrameForm) (v : Meaning) (t : Progress) → P s frame (InVolume v t) → HasFile name v

found_frame : (name : Guid) (P : PackedRelation) → Finds name P → (s : Progress) (x : Option FrameForm) (v : Meaning) (t : Progress)
    → SectionSearch P s x (InVolume v t) → HasFile name v
found_frame name P finds s None v t e = absurd (not_both v t s e)
found_frame name P finds s (Some frame) v t is = finds s frame v t is

found_part : (name : Guid) (P : PackedRelation) → Finds name P → (s : Progress) (node : NodeMeaning) (v : Meaning) (t : Progress)
    → PartSearch name P s node (InVolume v t) → HasFile name v
found_part name P finds s (VolumeNode m) v t e = found_volume name (file_named name (files_of m)) m v s t refl e
found_part name P finds s (FileNode f) v t e = absurd (not_both v t s e)
found_part name P finds s (SectionNode section) v t is = found_frame name P finds s (packed_frame section) v t is

pub found_rows : (name : Guid) (P : PackedRelation) → Finds name P → (s : Progress) (rows : List TreeRow) (v : Meaning) (t : Progress)
    → RowsSearch name P s rows (InVolume v t) → HasFile name v
found_rows name P finds s [] v t e = absurd (not_both v t s e)
found_rows name P finds s (r ∷ rows) v t (inl (w, u, here, is)) = found_part name P finds s r.node v t (rw (← is) at here)
found_rows name P finds s (r ∷ rows) v t (inr (u, here, more)) = found_rows name P finds u rows v t more

found_contents : (name : Guid) (P : PackedRelation) → Finds name P → (s : Progress) (b : List ℕ) (v : Meaning) (t : Progress)
    → ContentsOver name P s b (InVolume v t) → HasFile name v
found_contents name P finds s b v t (inl (sections, tail, accepted, rows)) = found_rows name P finds s _ v t rows
found_contents name P finds s b v t (inr (fault, why, e)) = absurd (not_both v t _ e)

found_opened : (name : Guid) (P : PackedRelation) → Finds name P → (s : Progress) (r : Result (Way × List ℕ) OpenFault) (v : Meaning)
    (t : Progress) → OpenedOver (ContentsOver name P) s r (InVolume v t) → HasFile name v
found_opened name P finds s (Ok o) v t is = found_contents name P finds _ o.1 v t is
found_opened name P finds s (Err fault) v t e = absurd (not_both v t _ e)

found_limited : (name : Guid) (P : PackedRelation) → Finds name P → (limit : Option ℕ) (s : Progress) (frame : FrameForm) (v : Meaning)
    (t : Progress) → PackedOver (ContentsOver name P) limit s frame (InVolume v t) → HasFile name v
found_limited name P finds None s frame v t e = absurd (not_both v t _ e)
found_limited name P finds (Some limit) s frame v t (inl is) = found_opened name P finds s _ v t is
found_limited name P finds (Some limit) s frame v t (inr (decoded, e)) = absurd (not_both v t _ e)

pub found_packed : (name : Guid) (n : ℕ) → Finds name (PackedSearch name n)
found_packed name zero s frame v t e = absurd (not_both v t _ e)
found_packed name (suc n) s frame v t is =
    found_limited name (PackedSearch name n) (found_packed name n) (contents_limit s.budget) s frame v t is

-- ---- a search that ends nowhere

lacking_volume : (x : Option FileMeaning) (m : Meaning) (s t : Progress) → Nowhere t ≡ end_in x m s → x ≡ None
lacking_volume (Some f) m s t e = absurd (not_both m s t (sym e))
lacking_volume None m s t e = refl

lacking_part : (name : Guid) (P : PackedRelation) (s : Progress) (node : NodeMeaning) (t : Progress)
    → PartSearch name P s node (Nowhere t) → LacksFile name node
lacking_part name P s (VolumeNode m) t e = lacking_volume (file_named name (files_of m)) m s t e
lacking_part name P s (FileNode f) t e = tt
lacking_part name P s (SectionNode section) t e = tt

pub lacking_rows : (name : Guid) (P : PackedRelation) (s : Progress) (rows : List TreeRow) (t : Progress)
    → RowsSearch name P s rows (Nowhere t) → AllByRecursion (λ r. LacksFile name r.node) rows
lacking_rows name P s [] t e = tt
lacking_rows name P s (r ∷ rows) t (inl (v, u, here, is)) = absurd (not_both v u t (sym is))
lacking_rows name P s (r ∷ rows) t (inr (u, here, more)) =
    (lacking_part name P s r.node u here, lacking_rows name P u rows t more)
