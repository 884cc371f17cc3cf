-- The value of an erased byte of flash memory (PI specification, volume 3, section 3.2.1.1, EFI_FVB2_ERASE_POLARITY),
-- and lists of bytes that all have one value.
use Rattle.std.specs.List.{AllByRecursion}
use Rattle.std.specs.Prelude.{ℕ, ◌≡◌, List}
use Rattle.fv_base.specs.declared.flash.Polarity.{Polarity}
use Rattle.fv_base.specs.declared.flash.Polarity.TheVariants.{Ones, Zeros}

-- the value of an erased byte: 0xFF if erased bits are ones, 0x00 if they are zeros (PI specification, volume 3,
-- section 3.2.1.1)
abbrev pub erased_byte : Polarity → ℕ
erased_byte Ones = 255
erased_byte Zeros = 0

-- every byte of the list is `byte`
abbrev pub AllAre : ℕ → List ℕ → Type 0
AllAre byte b = AllByRecursion (λ x. x ≡ byte) b
