-- The faults of bytes that should begin with a volume, by the same recursion as Denotes (PI specification, volume 3,
-- sections 3.2.1 to 3.2.5). With First, a fault is the first one in the order in which a volume is read. With Any, it
-- is a fault whose condition holds at its place, and the parts through which the place is found have no fault of their
-- own. For a fault of a cell these parts are the volume header and the cells before it. For a duplicate name, a volume
-- top file or a fault in the data of a file they are the volume header and all cells. For a fault in a stream they also
-- include the section headers before the place and, for Depth or a fault in a section's body, all section headers of
-- the stream. In the part that has the fault, the guards before the failing check hold (`is_guard`).
use Rattle.std.specs.Prelude.{◌≡◌, ℕ, zero, suc, ◌+◌, ◌⊎◌, true, List, [], ◌∷◌, ◌++◌, take, drop}
use Rattle.std.specs.List.{list_any}
use Rattle.fv_base.specs.Words.{Which, First, Any, Fails, outer_fault, depth_limit}
use Rattle.fv_base.specs.declared.fault.Fault.{Fault}
use Rattle.fv_base.specs.declared.fault.Place.{Place}
use Rattle.fv_base.specs.declared.fault.FaultKind.TheVariants as kinds
use Rattle.fv_file.specs.Words.{CellForm, Tiles, CellFault}
use Rattle.fv_head.specs.Words.{HeadFields, BeginsVolume, head_checks}
use Rattle.fv_head.specs.declared.extent.Extent.{Extent}
use Rattle.fv_section.specs.Words.{FrameFault, FrameForm, Splits, section_header_len}
use Rattle.fv_tree.specs.Denotes.{group_kind, volume_kind, Opens, holds_sections, Pairwise, MeansFile, MeansSection}
use Rattle.fv_tree.specs.Denotes.{Stream}
use Rattle.fv_tree.specs.VolumeFiles.{FileForm, files_in, is_stored_twin, NoStoredTwins, current_in, is_top, end_of, TopAtEnd}

-- ---- places

-- the fault f of bytes that begin at the offset `base` of other bytes, as a fault of these other bytes. Its depth is
-- `depth`, whatever depth f has
abbrev pub moved_fault : ℕ → ℕ → Fault → Fault
moved_fault base depth f = record { kind = f.kind; place = record { offset = base + f.place.offset; depth = depth } }

-- P holds of a fault of some bytes that begin at this place, and e is the same fault in the bytes around them
abbrev pub Moved : Place → (Fault → Type 0) → Fault → Type 0
Moved at P e = (f : Fault) × P f × (e ≡ moved_fault at.offset at.depth f)

-- where a frame's body begins in its stream; and where a file's data begin in their volume
abbrev pub body_place : FrameForm → ℕ
body_place f = f.offset + section_header_len f.extended

abbrev pub data_place : FileForm → ℕ
data_place f = f.offset + f.head.header_len

-- the same two places, if the stream or the volume begins at the place `at`; a body is one level deeper than its stream
abbrev pub body_at : Place → FrameForm → Place
body_at at f = record { offset = at.offset + body_place f; depth = at.depth + 1 }

abbrev pub data_at : Place → FileForm → Place
data_at at f = record { offset = at.offset + data_place f; depth = at.depth }

-- the type of statements about a fault, some bytes, and the place where the bytes begin (`Faulty`); and the type of
-- statements about a fault, a frame, and the place where the frame's stream begins (`FrameFaulty`)
abbrev pub Faulty : Type 1
Faulty = Fault → List ℕ → Place → Type 0

abbrev pub FrameFaulty : Type 1
FrameFaulty = Fault → FrameForm → Place → Type 0

-- ---- one level

-- a condition that only a first fault must meet
abbrev pub IfFirst : Which → Type 0 → Type 0
IfFirst First P = P
IfFirst Any P = Unit {0}

-- one of the items has a fault; if it is to be the first fault, each preceding item was read
abbrev pub OneOf : {A B : Type 0} → Which → (A → B → Type 0) → (A → Type 0) → List A → Type 0
OneOf {A} {B} which R fault xs =
    (before : List A) × (x : A) × (after : List A) × (xs ≡ before ++ (x ∷ after))
    × IfFirst which ((read : List B) × Pairwise R before read) × fault x

-- the file has a twin among the files preceding it. If `which` is `First`, the file is also the first that has one: no
-- two of the files preceding it are twins
abbrev pub HasTwin : Which → FileForm → List FileForm → Type 0
HasTwin which f fs =
    (before : List FileForm) × (after : List FileForm) × (fs ≡ before ++ (f ∷ after)) × IfFirst which (NoStoredTwins before)
    × (list_any (is_stored_twin f) before ≡ true)

-- f is a volume top file that is not the last of the files, or does not end where the volume ends
abbrev pub TopElsewhere : ℕ → FileForm → List FileForm → Type 0
TopElsewhere length f fs =
    (before : List FileForm) × (after : List FileForm) × (fs ≡ before ++ (f ∷ after)) × (is_top f ≡ true)
    × (after ≡ [] → end_of f ≡ length → ⊥)

-- e is a fault of the names of the valid files in a volume of this length. Either e is DuplicateName, at a file that has
-- a twin among the files preceding it; or e is TopFile, at a volume top file that is not at the end. If `which` is
-- `First`, e is TopFile only if no two of the files are twins
abbrev pub NamesFault : Which → ℕ → List FileForm → Fault → Type 0
NamesFault which length fs e =
    ((f : FileForm) × HasTwin which f fs × (e ≡ outer_fault kinds.DuplicateName f.offset))
    ⊎ (IfFirst which (NoStoredTwins fs)
    × (f : FileForm) × TopElsewhere length f (current_in fs) × (e ≡ outer_fault kinds.TopFile f.offset))

-- e is a fault of a cell in a volume's body, or a fault of the files in the cells (`NamesFault`). Faults in the
-- sections of the files are not included
abbrev pub StoredFault : Which → Extent → List ℕ → Fault → Type 0
StoredFault which x volume e =
    CellFault which x.file_system x.polarity x.first (drop x.first volume) e
    ⊎ ((cells : List CellForm) × Tiles x.file_system x.polarity x.first cells (drop x.first volume)
    × NamesFault which x.length (files_in cells) e)

-- a fault of a stream: a check of a section header fails, or the stream splits into frames and one of them has a fault
abbrev pub StreamFault : Which → ℕ → FrameFaulty → Faulty
StreamFault which n in_section e b at =
    Moved at (FrameFault which b) e
    ⊎ ((frames : List FrameForm) × (tail : ℕ) × Splits frames tail b
    × OneOf which (MeansSection n) (λ f. in_section e f at) frames)

-- a fault in the data of a file that holds sections
abbrev pub FileFault : Faulty → Fault → FileForm → Place → Type 0
FileFault in_stream e f at = (holds_sections f.head.kind ≡ true) × in_stream e f.payload (data_at at f)

-- a fault of the body of a volume: a fault of its cells or of the files in them (`StoredFault`); or a fault in the data
-- of a file, which is the first fault only if there is no fault of the other kind
abbrev pub BodyFault : Which → ℕ → Faulty → Extent → Faulty
BodyFault which n in_stream x e volume at =
    Moved at (StoredFault which x volume) e
    ⊎ ((cells : List CellForm) × Tiles x.file_system x.polarity x.first cells (drop x.first volume)
    × IfFirst which (NoStoredTwins (files_in cells) × TopAtEnd x.length (current_in (files_in cells)))
    × OneOf which (MeansFile (Stream n)) (λ f. FileFault in_stream e f at) (current_in (files_in cells)))

-- a fault of a volume: a check of its header fails, or the bytes begin with a volume header and the body has a fault
abbrev pub VolumeFault : Which → ℕ → Faulty → Faulty
VolumeFault which n in_stream e b at =
    Moved at (Fails which (head_checks b)) e
    ⊎ ((h : HeadFields) × (x : Extent) × BeginsVolume h x b × BodyFault which n in_stream x e (take x.length b) at)

-- ---- the recursion

-- a fault of a frame that is a group or is opened as a volume, if groups and opened volumes may nest at most n deep:
-- the frame is nested too deep, or its body has a fault
abbrev pub InSection : Which → ℕ → FrameFaulty
InSection which zero e f at =
    ((f.kind ≡ group_kind) ⊎ ((f.kind ≡ volume_kind) × Opens f.body))
    × (e ≡ moved_fault at.offset at.depth (outer_fault kinds.Depth f.offset))
InSection which (suc n) e f at =
    ((f.kind ≡ group_kind) × StreamFault which n (InSection which n) e f.body (body_at at f))
    ⊎ ((f.kind ≡ volume_kind) × Opens f.body
    × VolumeFault which n (StreamFault which n (InSection which n)) e f.body (body_at at f))

-- a fault of a stream in which groups and opened volumes may nest at most n deep
abbrev pub InStream : Which → ℕ → Faulty
InStream which n = StreamFault which n (InSection which n)

-- a fault of bytes that should begin with a volume in which groups and opened volumes may nest at most n deep
abbrev pub InVolume : Which → ℕ → Faulty
InVolume which n = VolumeFault which n (InStream which n)

-- ---- the faults of bytes that were passed to a call

-- the place at which the bytes passed to a call begin: offset 0, depth 0
abbrev pub outermost : Place
outermost = record { offset = 0; depth = 0 }

-- e is the first fault of bytes that should begin with a volume
abbrev pub IsFirstOfVolume : List ℕ → Fault → Type 0
IsFirstOfVolume b e = InVolume First depth_limit e b outermost

-- the condition of e holds at e's place in bytes that should begin with a volume, and the parts through which this
-- place is found have no fault of their own
abbrev pub FaultHolds : List ℕ → Fault → Type 0
FaultHolds b e = InVolume Any depth_limit e b outermost
