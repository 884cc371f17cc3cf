-- The places where a volume may begin, by the first rule of the tolerant reading (PI specification, volume 3, section
-- 3.2.1.1).
use Rattle.std.specs.Prelude.{ℕ, suc, nat_le, Bool, ◌==◌, ◌&&◌, ◌||◌, ◌%◌, if◌then◌else◌, List, [], ◌∷◌, length}
use Rattle.fv_base.specs.Words.{field, header_limit}
use Rattle.fv_head.specs.Words.{has_signature, has_sum, header_len_at}
use Rattle.fv_survey.specs.Systems.{files_by, is_known}

-- HeaderLength is from 56 to `header_limit` and within the bytes
abbrev pub has_header_len : List ℕ → Bool
has_header_len b = nat_le 56 (header_len_at b) && nat_le (header_len_at b) header_limit && nat_le (header_len_at b) (length b)

-- HeaderLength is possible and even, and the 16-bit words of the header sum to 0
abbrev pub has_right_header : List ℕ → Bool
has_right_header b = has_header_len b && (header_len_at b % 2 == 0) && has_sum (header_len_at b) b

-- a volume may begin with the first of these bytes: there are at least 56, the signature is at 40, and the survey knows
-- the file system, or HeaderLength and the checksum of the header are right
abbrev pub may_begin : List ℕ → Bool
may_begin b = nat_le 56 (length b) && has_signature b && (is_known (files_by (field 16 16 b)) || has_right_header b)

-- the number of bytes before the first place at which a volume may begin, or the number of all bytes if there is no
-- such place
abbrev pub first_start : List ℕ → ℕ
first_start [] = 0
first_start (x ∷ xs) = if may_begin (x ∷ xs) then 0 else suc (first_start xs)
