-- Definitions for the code that searches through packed sections.
use Rattle.std.specs.Prelude.{◌≡◌, ℕ, List, Result, Ok, Err}
use Rattle.fv_base.specs.declared.fault.Fault.{Fault}
use Rattle.fv_extract.specs.OpenedParts.{EndStops, EndText, InVolume, Nowhere, SearchEnd}
use Rattle.fv_extract.specs.declared.opened_search.Request.{Request}
use Rattle.fv_extract.specs.declared.opened_search.Step.{Step}
use Rattle.fv_extract.specs.declared.opened_search.Step.TheVariants.{Ended, Going}

-- the step belongs to this end of the search: in a volume, the sink took the text of the part, or a fault stopped the
-- extraction and the sink is unchanged; otherwise the sink is unchanged, and the search goes on
abbrev pub PutsStep : {S : Type 0} (takes : S → List ℕ → S → Type 0) → Request → SearchEnd → S → S → Result Step Fault → Type 0
PutsStep takes q (Nowhere p) s t result = (result ≡ Ok (Going p)) × (t ≡ s)
PutsStep takes q (InVolume m p) s t (Ok (Ended search)) =
    (text : List ℕ) × EndText q.part q.hex (InVolume m p) search text × takes s text t
PutsStep takes q (InVolume m p) s t (Ok (Going _)) = ⊥
PutsStep takes q (InVolume m p) s t (Err fault) = EndStops q.part (InVolume m p) fault × (t ≡ s)

-- the step belongs to an end of the search for which this relation holds
abbrev pub SearchesTo : {S : Type 0} (takes : S → List ℕ → S → Type 0) → Request → (SearchEnd → Type 0) → S → S
    → Result Step Fault → Type 0
SearchesTo takes q is_end s t result = (end : SearchEnd) × is_end end × PutsStep takes q end s t result
