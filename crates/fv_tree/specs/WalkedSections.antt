-- The meaning of the data of a file, as a function of the bytes and of the volumes that are the bodies of sections in
-- them (PI specification, volume 3, sections 3.2.3 to 3.2.5). The volumes are a list in the order of the sections: each
-- section takes the volumes in it from the front of the list, and leaves the others to the sections after it.
use Rattle.std.specs.Prelude.{◌≡◌, ℕ, zero, suc, ◌≤◌, Bool, true, false, List, [], ◌∷◌, length, map, nat_lt}
use Rattle.std.specs.Prelude.{◌==◌, ◌&&◌, if◌then◌else◌}
use Rattle.std.specs.List.{AllByRecursion}
use Rattle.fv_base.specs.Words.{IsBytes, depth_limit, volume_limit}
use Rattle.fv_base.specs.declared.guid.Guid.{Guid}
use Rattle.fv_head.specs.Words.{is_one_volume}
use Rattle.fv_section.specs.Words.{FrameForm, HasFrameAt, after_first, frame_in}
use Rattle.fv_tree.specs.Denotes.{MeansFile, MeansSection, Pairwise, Stream, group_kind, holds_sections, volume_kind}
use Rattle.fv_tree.specs.Meaning.{Meaning, SectionMeaning, Section, BodyMeaning, Leaf, Group, Nested, ContentMeaning, Plain}
use Rattle.fv_tree.specs.Meaning.{File, Sectioned}
use Rattle.fv_tree.specs.MeaningParts.{sections_from}
use Rattle.fv_tree.specs.ReadParts.{IsStoredFile, IsStoredFrame}
use Rattle.fv_tree.specs.VolumeFiles.{FileForm}
use Rattle.fv_tree.specs.declared.shape.Shape.{Shape}
use Rattle.fv_tree.specs.declared.shape.Shape.TheVariants as shapes

-- how the body of the section in a frame is read: as sections, as a volume, or as plain bytes
abbrev pub shape_of : FrameForm → Shape
shape_of f =
    if f.kind == group_kind then shapes.Group
    else (if (f.kind == volume_kind) && is_one_volume f.body then shapes.Volume else shapes.Leaf)

-- ---- the frames of a stream

-- for each of the first n frames of the bytes r, the bytes from this frame on; and the bytes that are left after these
-- frames. No frame follows if fewer than 4 bytes are left
abbrev pub starts_by : ℕ → List ℕ → List (List ℕ) × List ℕ
starts_by zero r = ([], r)
starts_by (suc n) r =
    if nat_lt (length r) 4 then ([], r) else (r ∷ (starts_by n (after_first r)).0, (starts_by n (after_first r)).1)

-- for each frame of the stream b, the bytes from this frame on; and the bytes after the last frame
abbrev pub starts_of : List ℕ → List (List ℕ) × List ℕ
starts_of b = starts_by (length b) b

-- the frames of the stream b, each with the offset 0; and the number of bytes after the last frame
abbrev pub frames_of : List ℕ → List FrameForm
frames_of b = map (frame_in 0) (starts_of b).0

abbrev pub tail_of : List ℕ → ℕ
tail_of b = length (starts_of b).1

-- r begins with the frame that the header at the start of r describes
abbrev pub BeginsFramed : List ℕ → Type 0
BeginsFramed r = HasFrameAt (frame_in 0 r) 0 r

-- ---- the sections of a stream

-- a function that makes a section from a frame and a list of volumes: it takes the volumes in the section from the
-- front of the list, and returns the section and the volumes that are left
abbrev pub Step : Type 0
Step = FrameForm → List Meaning → SectionMeaning × List Meaning

-- the sections that `step` makes from some frames, one after another, and the volumes that are left after the last
-- section. Each section takes volumes that the previous section has left
abbrev pub each_by : Step → List FrameForm → List Meaning → List SectionMeaning × List Meaning
each_by step [] vs = ([], vs)
each_by step (f ∷ fs) vs =
    ((step f vs).0 ∷ (each_by step fs (step f vs).1).0, (each_by step fs (step f vs).1).1)

-- the body of the frame f, read as this shape, and the volumes that are left. `step` makes the sections of a group. An
-- opened volume is the first volume of the list; if the list is empty, the body is a leaf
abbrev pub body_by : Shape → Step → FrameForm → List Meaning → BodyMeaning × List Meaning
body_by shapes.Leaf step f vs = (Leaf f.body, vs)
body_by shapes.Group step f vs =
    (Group (sections_from (each_by step (frames_of f.body) vs).0) (tail_of f.body), (each_by step (frames_of f.body) vs).1)
body_by shapes.Volume step f [] = (Leaf f.body, [])
body_by shapes.Volume step f (v ∷ vs) = (Nested v, vs)

-- the section in the frame f, and the volumes that are left, if `step` makes the sections in this section
abbrev pub section_over : Step → Step
section_over step f vs =
    (Section f.kind f.extended (body_by (shape_of f) step f vs).0, (body_by (shape_of f) step f vs).1)

-- the section in the frame f as a leaf, whatever its type is, and all of the volumes
abbrev pub unopened : Step
unopened f vs = (Section f.kind f.extended (Leaf f.body), vs)

-- the section in a frame, and the volumes that are left, if groups and opened volumes in the section, including the
-- section itself, nest at most n deep
abbrev pub section_by : ℕ → Step
section_by zero = section_over unopened
section_by (suc n) = section_over (section_by n)

-- the content of a file with the data b, and the volumes that are left. If the first argument is true, the data are
-- sections, in which groups and opened volumes nest at most n deep. Otherwise they are plain bytes
abbrev pub content_by : Bool → ℕ → List ℕ → List Meaning → ContentMeaning × List Meaning
content_by false n b vs = (Plain b, vs)
content_by true n b vs = (
  Sectioned (sections_from (each_by (section_by n) (frames_of b) vs).0) (tail_of b),
  (each_by (section_by n) (frames_of b) vs).1,
)

-- ---- what views keep

-- the frame f and the volumes vs, which a section view keeps, are a section that was read: some bytes contain f, and
-- the section that `section_by` makes from f and vs is the meaning of f
pub record IsKept (n : ℕ) (f : FrameForm) (vs : List Meaning) : Type 0 where
  pub few : n ≤ depth_limit
  pub stored : IsStoredFrame f
  pub means : MeansSection n f (section_by n f vs).0

-- the bytes r and the volumes vs, which `Sections` keeps, are sections that were read: r is frames and a tail, and the
-- sections that `section_by` makes from these frames and vs are their meanings
pub record AreKept (n : ℕ) (r : List ℕ) (vs : List Meaning) : Type 0 where
  pub few : n ≤ depth_limit
  pub small : IsBytes r
  pub short : length r ≤ volume_limit
  pub framed : AllByRecursion BeginsFramed (starts_of r).0
  pub means : Pairwise (MeansSection n) (frames_of r) (each_by (section_by n) (frames_of r) vs).0

-- the data and the volumes vs of a file view are a file that was read: a valid file in some bytes has these data, and
-- its meaning has this name, type and attributes, and the content of `content_by`. The data leave no volume
pub record IsKeptFile (n : ℕ) (payload : List ℕ) (vs : List Meaning) (name : Guid) (kind attributes : ℕ) : Type 0 where
  pub few : n ≤ depth_limit
  pub form : FileForm
  pub stored : IsStoredFile form
  pub payload_is : form.payload ≡ payload
  pub small : holds_sections kind ≡ true → IsBytes payload
  pub short : length payload ≤ volume_limit
  pub means : MeansFile (Stream n) form (File name kind attributes (content_by (holds_sections kind) n payload vs).0)
  pub none : (content_by (holds_sections kind) n payload vs).1 ≡ []
