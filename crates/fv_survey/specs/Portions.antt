-- The portions of an image that are still to be surveyed, and the rows that they give.
use Rattle.std.specs.Prelude.{ℕ, ◌+◌, ◌-◌, ◌==◌, if◌then◌else◌, List, [], ◌∷◌, ◌++◌, length, replicate}
use Rattle.fv_base.specs.Words.{field, guid_of}
use Rattle.fv_base.specs.declared.guid.Guid.{Guid}
use Rattle.fv_survey.specs.declared.portion.Nesting.{Nesting}
use Rattle.fv_survey.specs.declared.portion.Opening.{Opening}
use Rattle.fv_survey.specs.declared.portion.Portion.{Portion}
use Rattle.fv_survey.specs.declared.portion.Reading.{Reading}
use Rattle.fv_survey.specs.declared.row.Row.{Row}

-- a portion as contracts see it: what its bytes are read as, how deep it lies, its offset in bytes from the start of
-- the image, and its bytes
pub record PortionForm : Type 0 where
  pub reading : Reading
  pub nest : Nesting
  pub at : ℕ
  pub bytes : List ℕ

abbrev pub portion_form : Portion → PortionForm
portion_form p = record { reading = p.reading; nest = p.nest; at = p.at; bytes = p.bytes.now }

-- the bytes of a portion from the offset `from` to the offset `to`, as a portion of their own
abbrev pub cut : Reading → Nesting → ℕ → ℕ → PortionForm → PortionForm
cut reading nest from to p =
    record { reading = reading; nest = nest; at = p.at + from; bytes = field from (to - from) p.bytes }

-- the portion and then the others; or only the others, if the portion has no bytes
abbrev pub ahead : PortionForm → List PortionForm → List PortionForm
ahead p ps = if length p.bytes == 0 then ps else p ∷ ps

-- the portions of a stack, from the last item, which is the top of the stack, to the first
abbrev pub stack : List Portion → List PortionForm
stack [] = []
stack (p ∷ ps) = stack ps ++ (portion_form p ∷ [])

-- the nesting of the rows in a row; of the content of a group or of an opened volume; and of a volume that was found by
-- its signature, which has all levels again
abbrev pub inside : Nesting → Nesting
inside nest = record { depth = nest.depth + 1; levels = nest.levels; found = nest.found }

abbrev pub opened : Nesting → Nesting
opened nest = record { depth = nest.depth; levels = nest.levels - 1; found = nest.found }

abbrev pub searched : Nesting → Nesting
searched nest = record { depth = nest.depth; levels = 8; found = nest.found - 1 }

-- the name of a row or of a piece without a name: 16 zeros
abbrev pub no_name : Guid
no_name = guid_of (replicate 16 0)

-- the row that begins where the portion begins, with n bytes, and says what the opening says
abbrev pub row_of : Opening → ℕ → PortionForm → Row
row_of opening n p = record {
  kind = opening.kind;
  depth = p.nest.depth;
  code = opening.code;
  found = opening.found;
  findings = opening.findings;
  offset = p.at;
  length = n;
  name = opening.name;
}
