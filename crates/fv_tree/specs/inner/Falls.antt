-- Each volume in the data of a file is smaller than the content of the file. The steps:
-- 1. A section is larger than each volume that it takes, and so are the sections of a stream (`body_falls`,
--    `each_falls`, `section_falls`).
-- 2. The data of a file take all volumes, so their content is larger than each volume (`content_falls`).
-- 3. The measure of the volumes that a file view keeps, which the kit derives (`deep-FileParts`), is at most the size of
--    the largest volume plus 1 (`nested_falls`). So it is at most the size of the content (`file_falls`).
use Rattle.std.specs.Prelude.{◌≡◌, ℕ, zero, suc, ◌+◌, ◌≤◌, Bool, true, false, List, [], ◌∷◌}
use Rattle.std.proofs.Common.{arith, ap}
use denote.Param.Weighed.{most}
use Rattle.fv_section.specs.Words.{FrameForm}
use Rattle.fv_tree.specs.Meaning.{Meaning}
use Rattle.fv_tree.specs.MeaningParts.{sections_from}
use Rattle.fv_tree.specs.KeptParts.{nested_list}
use Rattle.fv_tree.specs.WalkedSections.{shape_of}
use Rattle.fv_tree.specs.inner.Sizes.{body_size, content_size, section_size, sections_size, volume_size}
use Rattle.fv_tree.specs.WalkedSections.{Step, body_by, content_by, each_by, frames_of, section_by, section_over, unopened}
use Rattle.fv_tree.specs.declared.shape.Shape.{Shape}
use Rattle.fv_tree.specs.declared.shape.Shape.TheVariants as shapes
use Rattle.fv_tree.specs.declared.view.FileParts.{FileParts}
use Rattle.fv_tree.specs.declared.view.FileParts.TheVariants as kept
use Rattle.fv_tree.specs.declared.view.FileView.TheDeep.{deep-FileParts}

-- the size of the largest volume plus 1, or 0 if there is no volume
abbrev largest : List Meaning → ℕ
largest vs = most (λ v. volume_size v + 1) vs

-- each volume that a section takes is smaller than the section: if n is at least the size of the section, and larger
-- than each volume that is left, n is larger than each volume of the list
abbrev Falls : Step → Type 0
Falls step = (f : FrameForm) (vs : List Meaning) (n : ℕ) → section_size (step f vs).0 ≤ n → largest (step f vs).1 ≤ n → largest vs ≤ n

each_falls : (step : Step) → Falls step → (fs : List FrameForm) (vs : List Meaning) (n : ℕ)
    → sections_size (sections_from (each_by step fs vs).0) ≤ n → largest (each_by step fs vs).1 ≤ n → largest vs ≤ n
each_falls step falls [] vs n small rest = rest
each_falls step falls (f ∷ fs) vs n small rest =
    falls f vs n (omega (arith, small)) (each_falls step falls fs (step f vs).1 n (omega (arith, small)) rest)

body_falls : (shape : Shape) (step : Step) → Falls step → (f : FrameForm) (vs : List Meaning) (n : ℕ)
    → body_size (body_by shape step f vs).0 + 1 ≤ n → largest (body_by shape step f vs).1 ≤ n → largest vs ≤ n
body_falls shapes.Leaf step falls f vs n small rest = rest
body_falls shapes.Group step falls f vs n small rest = each_falls step falls (frames_of f.body) vs n (omega (arith, small)) rest
body_falls shapes.Volume step falls f [] n small rest = rest
body_falls shapes.Volume step falls f (v ∷ vs) n small rest = omega (arith, small, rest)

over_falls : (step : Step) → Falls step → Falls (section_over step)
over_falls step falls f vs n small rest = body_falls (shape_of f) step falls f vs n small rest

section_falls : (k : ℕ) → Falls (section_by k)
section_falls zero = over_falls unopened (λ f vs n small rest. rest)
section_falls (suc k) = over_falls (section_by k) (section_falls k)

content_falls : (t : Bool) (k : ℕ) (b : List ℕ) (vs : List Meaning) → (content_by t k b vs).1 ≡ []
    → largest vs ≤ content_size (content_by t k b vs).0
content_falls false k b vs none = omega (arith, ap largest none)
content_falls true k b vs none =
    each_falls (section_by k) (section_falls k) (frames_of b) vs _ (omega arith) (omega (arith, ap largest none))

nested_falls : (p : FileParts) → deep-FileParts p ≤ largest (nested_list p)
nested_falls (kept.Single _ _) = omega arith
nested_falls (kept.Nesting _ _) = omega arith

pub file_falls : (p : FileParts) (t : Bool) (k : ℕ) (b : List ℕ) → (content_by t k b (nested_list p)).1 ≡ []
    → deep-FileParts p ≤ content_size (content_by t k b (nested_list p)).0
file_falls p t k b none = omega (arith, nested_falls p, content_falls t k b (nested_list p) none)
