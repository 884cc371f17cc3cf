-- A section is read by its shape, and a file by its type. The steps:
-- 1. A test decides whether a body is opened as a volume (`opens_decides`).
-- 2. So the shape of a section determines whether it is a leaf, a group or an opened volume (`leaf_shape`,
--    `group_shape`, `volume_shape`).
-- 3. The meaning of a leaf is its bytes (`leaf_is`). The meaning of a group or an opened volume is the meaning that is
--    read in its body, one level deeper (`group_found`, `nested_found`), and the first fault in its body is its first
--    fault (`group_first`, `nested_first`).
-- 4. A group or an opened volume whose body is not read has no meaning (`group_only`, `opened_only`). If no level is
--    left, it has the fault Depth (`deep_fault`).
-- 5. The meaning of a file whose type holds sections is its stream (`stream_reads`). If its data are not a stream, the
--    file has no meaning (`stream_bad`).
use Rattle.std.proofs.Common.{◌≡◌, ℕ, ◌+◌, ◌≤◌, [], ◌∷◌, ◌≢◌, ◌⊎◌, if◌then◌else◌, zero, suc, List, length, Bool, true, refl, ap, inl, inr, arith}
use Rattle.std.proofs.Common.{is_some, Some, None, le-leb, leb-true}
use Rattle.std.proofs.lemmas.Bool.Decides.{Decides-and, Decides-like}
use Rattle.fv_base.proofs.Laws.{common_steps, Decides, Decides-eqb, bytes_eq-Decides, First, outer_fault, field, up_is_not_down, volume_limit}
use Rattle.fv_base.specs.declared.fault.Fault.{Fault}
use Rattle.fv_base.specs.declared.flash.FileSystem.{FileSystem}
use Rattle.fv_base.specs.declared.fault.Place.{Place}
use Rattle.fv_base.specs.declared.flash.FileSystem.TheVariants.{Ffs2, Ffs3}
use Rattle.fv_head.specs.Words.{system_guid, is_one_volume}
use Rattle.fv_base.specs.declared.fault.FaultKind.TheVariants as kinds
use Rattle.fv_section.specs.Words.{FrameForm}
use Rattle.fv_section.proofs.Laws.{stands_within}
use Rattle.fv_tree.specs.Words.{group_kind, volume_kind, Opens, StreamRelation, VolumeRelation, MeansSection, SectionOver, Stream, Denotes}
use Rattle.fv_tree.specs.Words.{holds_sections, MeansContent, MeansFile, FileForm, moved_fault, body_place, body_at, InSection, InStream, InVolume}
use Rattle.fv_tree.specs.Words.{Meaning, FileMeaning, File, Plain, Sectioned, SectionMeaning, Section, Leaf, Group, Nested, sections_list}
use Rattle.fv_tree.specs.Words.{sections_from, IsStoredFrame, shape_of}
use Rattle.fv_tree.specs.declared.shape.Shape.{Shape}
use Rattle.fv_tree.specs.declared.shape.Shape.TheVariants as shapes

-- `sections_list` undoes `sections_from`
pub list_back : (ss : List SectionMeaning) → sections_list (sections_from ss) ≡ ss
list_back [] = refl
list_back (s ∷ ss) = ap (λ l. s ∷ l) (list_back ss)

-- the body of a stored frame is at most as long as a volume may be
pub frame_small : (f : FrameForm) → IsStoredFrame f → length f.body ≤ volume_limit
frame_small f (b, small, short, stands) = omega (arith, short, stands_within f b f.offset stands)

-- ---- the test of a body

-- a test for FFS2 and a test for FFS3 decide whether P holds of some file system
either : (P : FileSystem → Type 0) (t u : Bool) → Decides t (P Ffs2) → Decides u (P Ffs3)
    → Decides (is_some (if t then Some Ffs2 else (if u then Some Ffs3 else None))) ((system : FileSystem) × P system)
either P t u two three = grind (arith, common_steps)

pub opens_decides : (b : List ℕ) → Decides (is_one_volume b) (Opens b)
opens_decides b =
    Decides-like _ (λ h. grind arith) (λ o. (((o.least, o.signature), o.file_system), o.length_is)) (Decides-and _ _ (Decides-and _ _
    (Decides-and _ _ (leb-true 56 (length b), le-leb 56 (length b)) (bytes_eq-Decides _ _))
    (either (λ s. field 16 16 b ≡ system_guid s) _ _ (bytes_eq-Decides _ _) (bytes_eq-Decides _ _))) (Decides-eqb _ _))

-- ---- the shapes

pub record IsLeaf (f : FrameForm) : Type 0 where
  pub no_group : f.kind ≢ group_kind
  pub not_opened : f.kind ≡ volume_kind → Opens f.body → ⊥

pub record IsOpenedFrame (f : FrameForm) : Type 0 where
  pub kind : f.kind ≡ volume_kind
  pub opens : Opens f.body

pub leaf_shape : (f : FrameForm) → shape_of f ≡ shapes.Leaf → IsLeaf f
leaf_shape f is = grind (arith, common_steps, opens_decides) steps 150000

-- the test of a group is true if the shape is a group, and the test of a volume is true if the shape is a volume
by_tests : (g v : Bool) (shape : Shape) → (if g then shapes.Group else (if v then shapes.Volume else shapes.Leaf)) ≡ shape
    → (shape ≡ shapes.Group → g ≡ true) × (shape ≡ shapes.Volume → v ≡ true)
by_tests g v shape is = grind (arith, common_steps)

pub group_shape : (f : FrameForm) → shape_of f ≡ shapes.Group → f.kind ≡ group_kind
group_shape f is = (Decides-eqb _ _).0 ((by_tests _ _ _ is).0 refl)

pub volume_shape : (f : FrameForm) → shape_of f ≡ shapes.Volume → IsOpenedFrame f
volume_shape f is = grind (arith, common_steps, by_tests _ _ _ is, opens_decides f.body)

-- the type of a group is not the type of a volume
pub group_is_no_volume : (f : FrameForm) → f.kind ≡ group_kind → f.kind ≡ volume_kind → ⊥
group_is_no_volume f a b = omega (arith, a, b)

-- ---- a leaf

pub leaf_is : (n : ℕ) (f : FrameForm) → IsLeaf f → MeansSection n f (Section f.kind f.extended (Leaf f.body))
leaf_is zero f l = (refl, refl, (l.no_group, l.not_opened, refl))
leaf_is (suc n) f l = (refl, refl, (l.no_group, l.not_opened, refl))

-- ---- a group and an opened volume, with any relations for the parts inside

-- a group whose body is not a stream has no meaning
pub group_only : (S : StreamRelation) (V : VolumeRelation) (f : FrameForm) → f.kind ≡ group_kind
    → ((us : List SectionMeaning) (u : ℕ) → S us u f.body → ⊥) → (s : SectionMeaning) → SectionOver S V f s → ⊥
group_only S V f g none s section_over = grind (arith, common_steps, group_is_no_volume) steps 150000

-- an opened body that is not a volume has no meaning
pub opened_only : (S : StreamRelation) (V : VolumeRelation) (f : FrameForm) → IsOpenedFrame f → ((v : Meaning) → V f.body v → ⊥)
    → (s : SectionMeaning) → SectionOver S V f s → ⊥
opened_only S V f o none s section_over = grind (arith, common_steps, group_is_no_volume) steps 150000

-- places with equal offsets and equal depths are equal
pub one_place : (p q : Place) → p.offset ≡ q.offset → p.depth ≡ q.depth → p ≡ q
one_place p q o d = grind (arith, common_steps)

-- ---- by the number of levels that are left

pub suc_is : (n k : ℕ) → n ≡ k + 1 → suc k ≡ n
suc_is n k e = omega (arith, e)

pub group_found : (n k : ℕ) (f : FrameForm) (ss : List SectionMeaning) (t : ℕ) → n ≡ k + 1 → f.kind ≡ group_kind
    → Stream k ss t f.body → MeansSection n f (Section f.kind f.extended (Group (sections_from ss) t))
group_found n k f ss t e g h = grind (arith, common_steps, suc_is, list_back)

pub group_first : (n k : ℕ) (f : FrameForm) (x : Fault) (at inside : Place) → n ≡ k + 1 → f.kind ≡ group_kind
    → inside.offset ≡ at.offset + body_place f → inside.depth ≡ at.depth + 1 → InStream First k x f.body inside → InSection First n x f at
group_first n k f x at inside e g p q h = rw (← suc_is n k e) (inl (g, rw (one_place inside (body_at at f) p q) at h))

pub nested_found : (n k : ℕ) (f : FrameForm) (v : Meaning) → n ≡ k + 1 → IsOpenedFrame f → Denotes k f.body v
    → MeansSection n f (Section f.kind f.extended (Nested v))
nested_found n k f v e o d = rw (← suc_is n k e) (refl, refl, (o.kind, o.opens, d))

pub nested_first : (n k : ℕ) (f : FrameForm) (x : Fault) (at inside : Place) → n ≡ k + 1 → IsOpenedFrame f
    → inside.offset ≡ at.offset + body_place f → inside.depth ≡ at.depth + 1 → InVolume First k x f.body inside → InSection First n x f at
nested_first n k f x at inside e o p q h = rw (← suc_is n k e) (inr (o.kind, o.opens, rw (one_place inside (body_at at f) p q) at h))

pub deep_fault : (n : ℕ) (f : FrameForm) (x : Fault) (at : Place) → n ≡ 0 → (f.kind ≡ group_kind) ⊎ IsOpenedFrame f
    → x ≡ moved_fault at.offset at.depth (outer_fault kinds.Depth f.offset) → InSection First n x f at
deep_fault n f x at e kind is = grind (arith, common_steps)

-- ---- a file

pub stream_reads : (n kind : ℕ) (payload : List ℕ) (ss : List SectionMeaning) (t : ℕ) → holds_sections kind ≡ true → Stream n ss t payload
    → MeansContent (Stream n) kind payload (Sectioned (sections_from ss) t)
stream_reads n kind payload ss t h s = grind (arith, common_steps, list_back)

pub stream_bad : (n : ℕ) (f : FileForm) → holds_sections f.head.kind ≡ true → ((us : List SectionMeaning) (u : ℕ)
    → Stream n us u f.payload → ⊥) → (m : FileMeaning) → MeansFile (Stream n) f m → ⊥
stream_bad n f h none (File name kind attributes (Plain b)) (p, q, s, (no_sections, r)) = up_is_not_down _ h (rw q at no_sections)
stream_bad n f h none (File name kind attributes (Sectioned us u)) (p, q, s, (has, r)) = none (sections_list us) u r
