-- The limits on volumes, on their headers and on nesting. The code has its own constants for them (src/limits.rt): a
-- contract that cites one of these numbers can be proved only while the two agree.
use Rattle.std.specs.Prelude.{ℕ}

-- the maximum length in bytes of a volume, of each binary input of a run, and of a flash image that is checked or laid
-- out
abbrev pub volume_limit : ℕ
volume_limit = 268435456

-- the maximum length of a volume header in bytes: 56, and 8 for each of 256 block map entries and for the pair of zeros
-- after them
abbrev pub header_limit : ℕ
header_limit = 2112

-- the maximum length of an extended header in bytes
abbrev pub ext_limit : ℕ
ext_limit = 65535

-- the maximum depth to which groups and opened volumes nest in a volume
abbrev pub depth_limit : ℕ
depth_limit = 8
