-- The text of an extraction.
use Rattle.std.specs.Prelude.{◌≡◌, ℕ, Bool, List, []}
use Rattle.fv_text.specs.Words.{ShowsBytes}
use Rattle.fv_extract.specs.declared.extracting.Extraction.{Extraction}
use Rattle.fv_extract.specs.declared.extracting.Extraction.TheVariants as parts
use Rattle.fv_extract.specs.declared.outcome.Outcome.{Outcome}
use Rattle.fv_extract.specs.declared.outcome.Outcome.TheVariants.{Put, NotFound, NotSectioned}

-- the text of an extraction, and what it says: the bytes of the part, as they are or as hexadecimal text (`true`); or no
-- bytes, if there is no part
abbrev pub ExtractionText : Bool → Extraction → Outcome → List ℕ → Type 0
ExtractionText hex (parts.Made bytes) Put text = ShowsBytes hex bytes text
ExtractionText hex (parts.Stored bytes) Put text = ShowsBytes hex bytes.now text
ExtractionText hex parts.NotFound NotFound text = text ≡ []
ExtractionText hex parts.NotSectioned NotSectioned text = text ≡ []
ExtractionText hex x outcome text = ⊥
