-- The parts that a walk has left.
use Rattle.std.specs.Prelude.{◌≡◌, ◌≤◌, ℕ, ◌+◌, List, [], ◌∷◌, ◌++◌, Option, Some, None, option_map}
use Rattle.fv_levels.specs.Words.{SourceForm}
use Rattle.fv_same.specs.Parts.{PartForm, PlacedPart, items_from, items_in}
use Rattle.fv_same.specs.inner.Placed.{placed_form}
use Rattle.fv_same.specs.inner.Readers.{reader_form}
use Rattle.fv_same.specs.declared.part.Part.{Part}
use Rattle.fv_same.specs.declared.part_walk.Step.{Step}
use Rattle.fv_same.specs.declared.part_walk.Step.TheVariants as steps
use Rattle.fv_same.specs.declared.walk.SourceWalk.{SourceWalk}

-- the items of the rows of a source that are left
abbrev pub items_left : List SourceForm → SourceWalk → List (Option PlacedPart)
items_left sources w = items_from (items_in w.room sources) sources (reader_form w.reader) w.rows

abbrev pub walk_items : List SourceForm → Option SourceWalk → List (Option PlacedPart)
walk_items sources None = []
walk_items sources (Some w) = items_left sources w

-- the items of some sources, from the last, which is the top of the stack, to the first
abbrev pub stack_items : List SourceForm → List SourceWalk → List (Option PlacedPart)
stack_items sources [] = []
stack_items sources (w ∷ ws) = stack_items sources ws ++ items_left sources w

-- what a part means, if there is one
abbrev pub meant : Option Part → Option PartForm
meant part = option_map (λ (p : Part). (placed_form p).part) part

-- a walk as contracts see it: the items that are left, and the number of the sources that are read
pub record WalkForm : Type 0 where
  pub items : List (Option PlacedPart)
  pub reading : ℕ

-- a step leads from the walk `old` to the walk `new`
abbrev pub Steps : WalkForm → Step → WalkForm → Type 0
Steps old steps.End new = (old.items ≡ []) × (new.items ≡ [])
Steps old steps.Over new = (old.items ≡ new.items) × (old.reading ≡ new.reading + 1)
Steps old (steps.Row part) new = (old.items ≡ option_map placed_form part ∷ new.items) × (new.reading ≤ old.reading + 1)
