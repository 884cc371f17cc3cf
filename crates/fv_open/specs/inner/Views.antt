-- What the values of the code are in the definitions, for private clauses.
use Rattle.std.specs.Prelude.{◌≡◌, ℕ, ◌⊎◌, List, Result, Ok, Err, Vec, false}
use Rattle.std.specs.declared.alloc.Global.{Global}
use Rattle.fv_packed.specs.declared.fault.PackedFault.{PackedFault}
use Rattle.fv_packed.specs.Words.{packed_out_of_memory}
use Rattle.fv_open.specs.SectionStreams.{is_stream}
use Rattle.fv_open.specs.Contents.{opened_form}
use Rattle.fv_open.specs.OpenFaults.{open_out_of_memory}
use Rattle.fv_open.specs.declared.fault.OpenFault.{OpenFault}
use Rattle.fv_open.specs.declared.opened.Opened.{Opened}
use Rattle.fv_open.specs.declared.way.Way.{Way}

-- what a function returned is what the definitions give, unless memory ran out
abbrev pub GivesOpened : Result Opened OpenFault → Result (Way × List ℕ) OpenFault → Type 0
GivesOpened (Ok o) read = read ≡ Ok (opened_form o)
GivesOpened (Err f) read = (f ≡ open_out_of_memory) ⊎ (read ≡ Err f)

-- what a decoder returned, with the way, is what the definitions give, unless memory ran out
abbrev pub GivesWay : Result (Way × Vec ℕ Global) PackedFault → Result (Way × List ℕ) PackedFault → Type 0
GivesWay (Ok v) read = read ≡ Ok (v.0, v.1.items)
GivesWay (Err f) read = (f ≡ packed_out_of_memory) ⊎ (read ≡ Err f)

-- what the compression of the UEFI specification gives is not a stream of sections
abbrev pub IsOther : Result (List ℕ) PackedFault → Type 0
IsOther (Ok contents) = is_stream contents ≡ false
IsOther (Err fault) = Unit {0}
