-- Volumes that do not fit, and their faults.
use Rattle.std.specs.List.{AllByRecursion}
use Rattle.std.specs.Prelude.{◌≡◌, ℕ, ◌+◌, ◌⊎◌, List, [], ◌∷◌}
use Rattle.fv_base.specs.declared.fault.Fault.{Fault}
use Rattle.fv_base.specs.declared.fault.FaultKind.{FaultKind}
use Rattle.fv_base.specs.declared.fault.FaultKind.TheVariants as kinds
use Rattle.fv_canon.specs.Layouts.{placement_items, IsPlaced}
use Rattle.fv_placement.specs.Words.{HasNoRoom, TopMisaligned}
use Rattle.fv_tree.specs.Words.{Inside, volumes_in, Meaning, head_of, length_of}
use Rattle.fv_head.specs.Words.{first_edge}

-- for each of these volumes, its own files can be placed
abbrev pub AllFit : List Inside → Type 0
AllFit vs = AllByRecursion IsPlaced vs

-- the fault of this kind for the layout of a volume at this depth; its offset is 0
abbrev pub layout_fault : FaultKind → ℕ → Fault
layout_fault kind depth = record { kind = kind; place = record { offset = 0; depth = depth } }

-- the volume's own files cannot be placed. The fault is TopAlignment if the volume top file cannot begin at its only
-- possible start (`TopMisaligned`), and otherwise NoRoom
abbrev pub UnfitHere : Meaning → ℕ → Fault → Type 0
UnfitHere m depth f =
    (TopMisaligned (length_of m) (placement_items m) × (f ≡ layout_fault kinds.TopAlignment depth))
    ⊎ (HasNoRoom (length_of m) (first_edge (head_of m) (head_of m).ext) (placement_items m) × (f ≡ layout_fault kinds.NoRoom depth))

-- f is the fault of the first of these volumes whose own files cannot be placed. `depth` is added to the depths of the
-- volumes
abbrev pub FirstUnplaced : List Inside → ℕ → Fault → Type 0
FirstUnplaced [] depth f = ⊥
FirstUnplaced (v ∷ vs) depth f = UnfitHere v.volume (depth + v.depth) f ⊎ (IsPlaced v × FirstUnplaced vs depth f)

-- f is the fault of the first volume whose own files cannot be placed: the outer volume comes first, then the volumes
-- inside it in preorder. `depth` is the depth of the outer volume
abbrev pub Unfit : Meaning → ℕ → Fault → Type 0
Unfit m depth f = FirstUnplaced (volumes_in m) depth f
