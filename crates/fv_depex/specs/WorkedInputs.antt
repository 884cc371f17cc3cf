-- The inputs and the faults of the worked readings, which `src/worked_readings.rt` states.
use Rattle.std.specs.Prelude.{ℕ, List, [], ◌∷◌, ◌++◌, replicate}
use Rattle.fv_base.specs.declared.guid.Guid.{Guid}
use Rattle.fv_depex.specs.declared.fault.DepexFault.{DepexFault}
use Rattle.fv_depex.specs.declared.fault.DepexFaultKind.{DepexFaultKind}

-- the GUID whose 16 bytes are all n
abbrev pub guid : ℕ → Guid
guid n = record { bytes = replicate 16 n }

-- "this GUID is not installed": PUSH with the GUID, NOT and END
abbrev pub not_installed : List ℕ
not_installed = (2 ∷ []) ++ (replicate 16 0x0a ++ (5 ∷ 8 ∷ []))

-- TRUE, and then BEFORE with a GUID and END
abbrev pub late_before : List ℕ
late_before = (6 ∷ 0 ∷ []) ++ (replicate 16 0x0a ++ (8 ∷ []))

-- a fault of this kind at this offset
abbrev pub depex_fault_at : DepexFaultKind → ℕ → DepexFault
depex_fault_at kind offset = record { kind = kind; offset = offset }
