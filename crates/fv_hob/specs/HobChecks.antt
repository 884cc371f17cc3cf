-- The checks of a block in order, and the first fault of a list (PI specification, volume 3, section 5).
use Rattle.std.specs.Prelude.{◌≡◌, ℕ, ◌%◌, ◌==◌, nat_le, ◌&&◌, ◌||◌, not, Bool, true, List, [], ◌∷◌, ◌++◌, length}
use Rattle.std.specs.List.{AllByRecursion}
use Rattle.fv_base.specs.Words.{Check, IsFirstFault}
use Rattle.fv_hob.specs.Hobs.{HobForm, IsBlock, has_shape, hob_len_at, hob_type_at}
use Rattle.fv_hob.specs.Lists.{BeginWithTable, IsNotEndHob, JoinsHobs}
use Rattle.fv_hob.specs.declared.fault.HobFault.{HobFault}
use Rattle.fv_hob.specs.declared.fault.HobFaultKind.{HobFaultKind}
use Rattle.fv_hob.specs.declared.fault.HobFaultKind.TheVariants as kinds

-- whether n is a length that a block may have: a multiple of 8, and at least 8, the length of the header
abbrev pub is_hob_len : ℕ → Bool
is_hob_len n = nat_le 8 n && (n % 8 == 0)

-- a check of a block: whether it holds, and the kind of its fault
abbrev pub hob_check : Bool → HobFaultKind → Check HobFaultKind
hob_check holds kind = record { holds = holds; fault = kind }

-- the checks of the block at the start of r, in order; `first` is true for the first block of the list
abbrev pub hob_checks : Bool → List ℕ → List (Check HobFaultKind)
hob_checks first r =
    hob_check (nat_le 1 (length r)) kinds.NoEnd
    ∷ hob_check (nat_le 8 (length r)) kinds.Short
    ∷ hob_check (is_hob_len (hob_len_at r)) kinds.Length
    ∷ hob_check (nat_le (hob_len_at r) (length r)) kinds.Short
    ∷ hob_check (not first || (hob_type_at r == 0x0001)) kinds.First
    ∷ hob_check (has_shape (hob_type_at r) (hob_len_at r)) kinds.Shape
    ∷ []

-- r begins with the block c, and if c is the first block of the list, it is a hand-off information table
pub record BeginsBlock (first : Bool) (c r : List ℕ) : Type 0 where
  pub rest : List ℕ
  pub joined : r ≡ c ++ rest
  pub block : IsBlock c
  pub begins : first ≡ true → hob_type_at c ≡ 0x0001

-- r begins with a hand-off information table (PHIT)
abbrev pub BeginsTable : List ℕ → Type 0
BeginsTable r = (c : List ℕ) × BeginsBlock true c r

-- b begins with blocks of a list, none of them an end block, up to the fault's offset; the fault's kind comes from the
-- first check that fails for the block there
pub record IsFirstHobFault (b : List ℕ) (fault : HobFault) : Type 0 where
  pub before : List HobForm
  pub c : List ℕ
  pub r : List ℕ
  pub joined : b ≡ c ++ r
  pub read : JoinsHobs before c
  pub begins : BeginWithTable before
  pub others : AllByRecursion IsNotEndHob before
  pub place : fault.offset ≡ length c
  pub kind_is : IsFirstFault (hob_checks (length before == 0) r) fault.kind

-- the fault that is returned when memory runs out: OutOfMemory at offset 0
abbrev pub hob_out_of_memory : HobFault
hob_out_of_memory = record { kind = kinds.OutOfMemory; offset = 0 }

-- the number of each kind of fault
abbrev pub hob_fault_number : HobFaultKind → ℕ
hob_fault_number kinds.Short = 1
hob_fault_number kinds.Length = 2
hob_fault_number kinds.First = 3
hob_fault_number kinds.Shape = 4
hob_fault_number kinds.NoEnd = 5
hob_fault_number kinds.OutOfMemory = 6
