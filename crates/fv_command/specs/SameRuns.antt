-- The text and the status of `same`: whether two images mean the same at every level (PI specification, volume 3,
-- sections 3.2 to 3.2.5).
use Rattle.std.specs.Prelude.{◌≡◌, ◌⊎◌, ℕ, Bool, List, ◌++◌, Option, Some, None, codes, decimal}
use Rattle.fv_base.specs.Words.{out_of_memory}
use Rattle.fv_base.specs.declared.fault.Fault.{Fault}
use Rattle.fv_budget.specs.Words.{full_budget}
use Rattle.fv_compare.specs.declared.side.Side.{Side}
use Rattle.fv_compare.specs.declared.side.Side.TheVariants as sides
use Rattle.fv_levels.specs.Words.{levels_of}
use Rattle.fv_same.specs.Words.{FirstDiffers, Same, placed_parts}
use Rattle.fv_same.specs.declared.difference.Difference.{Difference}
use Rattle.fv_same.specs.declared.part.PartPlace.{PartPlace}
use Rattle.fv_text.specs.Words.{Change, line_feed}
use Rattle.fv_command.specs.RunInputs.{Gives, GivingStops}
use Rattle.fv_command.specs.declared.status.Status.{Status}
use Rattle.fv_command.specs.declared.status.Status.TheVariants.{Done, Different}

-- where a part is: the number of its source, which is 0 for the image, its offset in this source, and its length; or
-- `none`, if an image has no part there
abbrev pub place_text : Option PartPlace → List ℕ
place_text None = codes "none"
place_text (Some place) =
    decimal place.source ++ (codes " at " ++ (decimal place.offset ++ (codes " length " ++ decimal place.length)))

-- the line for two images: `same`, or where they first differ
abbrev pub same_line : Option Difference → List ℕ
same_line None = codes "same" ++ line_feed
same_line (Some d) =
    codes "different: first " ++ (place_text d.first ++ (codes ", second " ++ (place_text d.second ++ line_feed)))

-- the answer for the images a and b, with all packed sections opened that can be, and its status: None and Done if they
-- mean the same; otherwise the places of the first parts that do not mean the same, and Different
abbrev pub IsSameAnswer : (a b : List ℕ) → Option Difference → Status → Type 0
IsSameAnswer a b None status = (status ≡ Done) × Same full_budget a b
IsSameAnswer a b (Some d) status =
    (status ≡ Different) × (Same full_budget a b → ⊥)
    × FirstDiffers d (placed_parts (levels_of a full_budget)) (placed_parts (levels_of b full_budget))

-- the text and the status of `same`: both inputs were read to their ends, and the text is the line of the answer for
-- these images. An image may have any bytes
abbrev pub SameRunText : Bool → (first second : Change) → Status → List ℕ → Type 0
SameRunText hex first second status text =
    (a : List ℕ) × (b : List ℕ) × (found : Option Difference) × Gives hex first.old first.new a
    × Gives hex second.old second.new b × IsSameAnswer a b found status × (text ≡ same_line found)

-- the side names the input whose reading stopped the run. The second input is read only if the first was read to its
-- end. If memory runs out after both were read, the side is First
abbrev pub SameStops : Side → Bool → (first second : Change) → Fault → Type 0
SameStops sides.First hex first second fault =
    ((second.new ≡ second.old) × GivingStops hex first.old first.new fault)
    ⊎ ((a : List ℕ) × (b : List ℕ) × Gives hex first.old first.new a × Gives hex second.old second.new b × (fault ≡ out_of_memory))
SameStops sides.Second hex first second fault =
    ((a : List ℕ) × Gives hex first.old first.new a) × GivingStops hex second.old second.new fault
SameStops sides.Output hex first second fault = ⊥
