-- The lines of `scan`, and the start of each line of `check --all`.
use Rattle.std.specs.Prelude.{ℕ, List, ◌++◌, codes, decimal}
use Rattle.fv_text.specs.Words.{line_feed}
use Rattle.fv_flash.specs.declared.scanner.FoundVolume.{FoundVolume}

-- the place of a volume of n bytes that begins at the offset `at` of an image
abbrev pub volume_place : ℕ → ℕ → List ℕ
volume_place at n = codes "volume at " ++ (decimal at ++ (codes " length " ++ decimal n))

-- the line of `scan` for a volume
abbrev pub volume_line : FoundVolume → List ℕ
volume_line v = volume_place v.offset v.length ++ line_feed
