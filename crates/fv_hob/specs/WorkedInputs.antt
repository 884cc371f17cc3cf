-- The inputs and the faults of the worked readings, which `src/worked_readings.rt` states.
use Rattle.std.specs.Prelude.{ℕ, List, [], ◌∷◌, ◌++◌, replicate}
use Rattle.fv_hob.specs.Hobs.{HobForm}
use Rattle.fv_hob.specs.declared.fault.HobFault.{HobFault}
use Rattle.fv_hob.specs.declared.fault.HobFaultKind.{HobFaultKind}
use Rattle.fv_hob.specs.declared.hob.HobKind.TheVariants as kinds

-- a hand-off information table (PHIT) of version 9 whose other fields are zero
abbrev pub table : HobForm
table = record {
  reserved = 0;
  kind = kinds.Handoff (record {
    version = 9;
    boot_mode = 0;
    memory_top = 0;
    memory_bottom = 0;
    free_memory_top = 0;
    free_memory_bottom = 0;
    end_of_list = 0;
  });
}

-- the 56 bytes of this table
abbrev pub table_bytes : List ℕ
table_bytes = (1 ∷ 0 ∷ 0x38 ∷ 0 ∷ 0 ∷ 0 ∷ 0 ∷ 0 ∷ 9 ∷ []) ++ replicate 47 0

-- an end block, and its 8 bytes
abbrev pub end_block : HobForm
end_block = record { reserved = 0; kind = kinds.End }

abbrev pub end_bytes : List ℕ
end_bytes = 0xff ∷ 0xff ∷ 8 ∷ 0 ∷ 0 ∷ 0 ∷ 0 ∷ 0 ∷ []

-- the header of a block of type 9 that states a length of 12 bytes, which is not a multiple of 8
abbrev pub header_of_12 : List ℕ
header_of_12 = 9 ∷ 0 ∷ 12 ∷ 0 ∷ 0 ∷ 0 ∷ 0 ∷ 0 ∷ []

-- a hand-off information table that states a length of 64 bytes, and has them
abbrev pub long_table : List ℕ
long_table = (1 ∷ 0 ∷ 0x40 ∷ 0 ∷ []) ++ replicate 60 0

-- a fault of this kind at this offset
abbrev pub hob_fault_at : HobFaultKind → ℕ → HobFault
hob_fault_at kind offset = record { kind = kind; offset = offset }
