-- The reads and writes of a run over one input, and the faults that stop it.
use Rattle.std.specs.Prelude.{ℕ, List, Option, ◌⊎◌}
use Rattle.std.specs.Io.KnownBytes.{Appends, Keeps}
use Rattle.fv_base.specs.Words.{ReadsWhole, ReadStops, WriteStops}
use Rattle.fv_base.specs.declared.fault.Fault.{Fault}
use Rattle.fv_tree.specs.Words.{MemoryRanOut}
use Rattle.fv_canon.specs.Headline.{NormalisesTo}
use Rattle.fv_canon.specs.InputRejections.{Rejects}

-- either nothing was written, because the input is rejected, or because memory ran out and the input begins with a
-- volume header; or the writer stopped before the end of the image
abbrev pub NormalisingStops : List ℕ → Option (List ℕ) → Option (List ℕ) → Fault → Type 0
NormalisingStops input held holds fault =
    (Keeps held holds × (MemoryRanOut input fault ⊎ Rejects input fault))
    ⊎ ((image : List ℕ) × NormalisesTo input image × WriteStops held holds image fault)

-- a run read an input to its end, and wrote its canonical image
abbrev pub RunWrites : Option (List ℕ) → Option (List ℕ) → Option (List ℕ) → Option (List ℕ) → Type 0
RunWrites unread left held holds =
    (input : List ℕ) × (image : List ℕ) × ReadsWhole unread left input × NormalisesTo input image × Appends held holds image

-- either a run stopped while it read, and nothing was written; or it stopped after it had read an input to its end
abbrev pub RunStops : Option (List ℕ) → Option (List ℕ) → Option (List ℕ) → Option (List ℕ) → Fault → Type 0
RunStops unread left held holds fault =
    (Keeps held holds × ReadStops unread left fault)
    ⊎ ((input : List ℕ) × ReadsWhole unread left input × NormalisingStops input held holds fault)
