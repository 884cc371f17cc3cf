-- GUIDs (UEFI specification, appendix A).
use Rattle.std.specs.Prelude.{ℕ, List}
use Rattle.fv_base.specs.declared.guid.Guid.{Guid}

-- the sixteen bytes of a GUID
abbrev pub bytes_of : Guid → List ℕ
bytes_of g = g.bytes

-- the GUID with these sixteen bytes
abbrev pub guid_of : List ℕ → Guid
guid_of b = record { bytes = b }
