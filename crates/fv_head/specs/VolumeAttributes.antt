-- The attribute bits of a volume (PI specification, volume 3, section 3.2.1.1, EFI_FVB_ATTRIBUTES_2).
use Rattle.std.specs.Prelude.{ℕ, ◌/◌, ◌%◌, ◌==◌, if◌then◌else◌}
use Rattle.fv_base.specs.declared.flash.Polarity.{Polarity}
use Rattle.fv_base.specs.declared.flash.Polarity.TheVariants.{Ones, Zeros}

-- the erase polarity: ones if bit 0x800 (EFI_FVB2_ERASE_POLARITY) is set, and otherwise zeros
abbrev pub polarity_of : ℕ → Polarity
polarity_of bits = if bits / 2048 % 2 == 1 then Ones else Zeros
