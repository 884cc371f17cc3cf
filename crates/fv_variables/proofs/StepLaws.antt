-- A step takes at least one byte and at most all bytes, and the bytes after it can be read as it says (`step_sound`).
use Rattle.std.proofs.Common.{◌≡◌, ◌≤◌, ◌<◌, ◌+◌, ◌-◌, ◌==◌, ℕ, List, Bool, true, false, take, length, nat_le, nat_lt, not, if◌then◌else◌, refl, ap}
use Rattle.std.proofs.Common.{leb-true, arith, length-take-le, None}
use Rattle.fv_base.proofs.Laws.{all_are, and_split, le_at, nat_tests, ltb-true}
use Rattle.fv_variables.specs.declared.format.StoreFormat.{StoreFormat}
use Rattle.fv_variables.specs.declared.format.StoreFormat.TheVariants as formats
use Rattle.fv_variables.specs.declared.format.Variable.{Variable}
use Rattle.fv_variables.specs.declared.row.Finding.{Finding}
use Rattle.fv_variables.specs.declared.row.Finding.TheVariants as findings
use Rattle.fv_variables.specs.declared.row.Part.{Part}
use Rattle.fv_variables.specs.declared.row.Part.TheVariants as parts
use Rattle.fv_variables.specs.declared.sign.Sign.{Sign}
use Rattle.fv_variables.specs.declared.sign.Sign.TheVariants as signs
use Rattle.fv_variables.specs.declared.step.Reading.{Reading}
use Rattle.fv_variables.specs.declared.step.Reading.TheVariants as readings
use Rattle.fv_variables.specs.declared.step.Step.{Step}
use Rattle.fv_variables.specs.Words.{IsRead, begins_sign, chain_step, filler_after, filler_step, first_sign, gap_step, has_queue_size, has_start_id}
use Rattle.fv_variables.specs.Words.{has_store_size, header_len, header_step, is_sign, is_unfinished, outside_step, part_step, plain_step, queue_finding}
use Rattle.fv_variables.specs.Words.{sign_by, sign_step, step_at, store_end, store_step, unread_step, variable_in, variable_step, within, working_step}
use Rattle.fv_base.specs.Words.{field, guid_of}
use Rattle.fv_variables.specs.Words.{has_list_sizes, list_in, list_step, passed_step, signature_step, within_list}
use Rattle.fv_variables.proofs.SignLaws.{sign_later, sign_within, signed_long}

-- the step fits n bytes
pub record Sound (s : Step) (n : ℕ) : Type 0 where
  pub some : 0 < s.length
  pub fits : s.length ≤ n
  pub next : IsRead s.next (n - s.length)

within_read : (format : StoreFormat) (left filler n : ℕ) → filler ≤ left → left ≤ n → IsRead (within format left filler) n
within_read format left filler n f l = go (left == 0) refl where
  go : (t : Bool) → (left == 0) ≡ t → IsRead (if t then readings.Outside else readings.Store format left filler) n
  go true e = tt
  go false e = let some : 0 < left = grind (arith, nat_tests) in (some, f, l)

unread_sound : (finding : Finding) (b : List ℕ) (n : ℕ) → 0 < length b → length b ≤ n → Sound (unread_step finding b) n
unread_sound finding b n some fits = record { some = some; fits = fits; next = tt }

plain_sound : (finding : Finding) (b : List ℕ) (n : ℕ) → 0 < length b → length b ≤ n → Sound (plain_step finding b) n
plain_sound finding b n some fits = go (all_are 0xff b) where
  go : (t : Bool) → Sound (if t then record { part = parts.Free; finding = None; length = length b; next = readings.Outside }
      else unread_step finding b) n
  go true = record { some = some; fits = fits; next = tt }
  go false = unread_sound finding b n some fits

-- ---- outside of stores

-- the end of a store is not before the end of its header, and within the bytes
pub end_lies : (b : List ℕ) → 28 ≤ length b → (28 ≤ store_end b) × (store_end b ≤ length b)
end_lies b long = go (has_store_size b) refl where
  go : (t : Bool) → has_store_size b ≡ t → (28 ≤ (if t then le_at 16 4 b else length b)) × ((if t then le_at 16 4 b else length b) ≤ length b)
  go true e = let both = and_split _ _ e in (leb-true 28 (le_at 16 4 b) both.0, leb-true (le_at 16 4 b) (length b) both.1)
  go false e = (long, omega arith)

header_sound : (format : StoreFormat) (b : List ℕ) → 32 ≤ length b → Sound (header_step format b) (length b)
header_sound format b long = record {
  some = omega arith;
  fits = omega (arith, long);
  next = within_read format (store_end b - 28) 0 (length b - 28) (omega arith) (omega (arith, (end_lies b (omega (arith, long))).1));
}

working_sound : (b : List ℕ) → 32 ≤ length b → Sound (working_step b) (length b)
working_sound b long = go (has_queue_size b) refl where
  go : (t : Bool) → has_queue_size b ≡ t → Sound (record {
    part = parts.WorkingBlock;
    finding = queue_finding b;
    length = if t then 32 + le_at 24 8 b else length b;
    next = readings.Outside;
  }) (length b)
  go true e = record { some = omega arith; fits = leb-true (32 + le_at 24 8 b) (length b) e; next = tt }
  go false e = record { some = omega (arith, long); fits = omega arith; next = tt }

gap_sound : (b : List ℕ) → 0 < length b → begins_sign b ≡ false → Sound (gap_step b) (length b)
gap_sound b some none =
    let long : length (take (first_sign b) b) ≡ first_sign b = length-take-le (first_sign b) b (sign_within b) in
    plain_sound findings.NoStore (take (first_sign b) b) (length b) (omega (arith, long, sign_later b some none))
    (omega (arith, long, sign_within b))

outside_sound : (b : List ℕ) → 0 < length b → Sound (outside_step b) (length b)
outside_sound b some = go (sign_by b) refl where
  go : (s : Sign) → sign_by b ≡ s → Sound (sign_step s b) (length b)
  go (signs.Store format) e = header_sound format b (signed_long b (ap is_sign e))
  go signs.Working e = working_sound b (signed_long b (ap is_sign e))
  go signs.Nothing e = gap_sound b some (ap is_sign e)

-- ---- in a store

pub header_some : (format : StoreFormat) → 0 < header_len format
header_some formats.Plain = omega arith
header_some formats.Authenticated = omega arith

part_sound : (format : StoreFormat) (part : Part) (size : ℕ) (b : List ℕ) (n : ℕ) → 0 < size → 0 < length b → length b ≤ n
    → Sound (part_step format part size b) n
part_sound format part size b n least some fits = go (nat_le size (length b)) refl where
  go : (t : Bool) → nat_le size (length b) ≡ t → Sound (if t then record {
    part = part;
    finding = None;
    length = size;
    next = within format (length b - size) (filler_after size (length b - size));
  } else unread_step findings.VariableSize b) n
  go true e =
      let enough : size ≤ length b = leb-true size (length b) e in record {
        some = least;
        fits = omega (arith, enough, fits);
        next = within_read format (length b - size) (filler_after size (length b - size)) (n - size) (omega arith) (omega (arith, fits));
      }
  go false e = unread_sound findings.VariableSize b n some fits

variable_sound : (format : StoreFormat) (v : Variable) (b : List ℕ) (n : ℕ) → 0 < length b → length b ≤ n → Sound (variable_step format v b) n
variable_sound format v b n some fits = go (is_unfinished v) where
  go : (t : Bool) → Sound (if t then part_step format parts.Unfinished (header_len format) b
      else part_step format (parts.Variable v) (header_len format + v.name_size + v.data_size) b) n
  go true = part_sound format parts.Unfinished (header_len format) b n (header_some format) some fits
  go false = part_sound format (parts.Variable v) (header_len format + v.name_size + v.data_size) b n (omega (arith, header_some format)) some fits

chain_sound : (format : StoreFormat) (b : List ℕ) (n : ℕ) → 0 < length b → length b ≤ n → Sound (chain_step format b) n
chain_sound format b n some fits = go (not (has_start_id b)) (nat_le (header_len format) (length b)) where
  go : (t u : Bool) → Sound (if t then plain_step findings.StartId b
      else (if u then variable_step format (variable_in format b) b else unread_step findings.VariableSize b)) n
  go true u = plain_sound findings.StartId b n some fits
  go false true = variable_sound format (variable_in format b) b n some fits
  go false false = unread_sound findings.VariableSize b n some fits

store_sound : (format : StoreFormat) (left filler : ℕ) (b : List ℕ) → IsRead (readings.Store format left filler) (length b)
    → Sound (store_step format left filler b) (length b)
store_sound format left filler b (some, f, l) = go (nat_lt 0 filler) refl where
  long : length (take left b) ≡ left
  long = length-take-le left b l

  go : (t : Bool) → nat_lt 0 filler ≡ t → Sound (if t then filler_step format left filler else chain_step format (take left b)) (length b)
  go true e = record {
    some = ltb-true 0 filler e;
    fits = omega (arith, f, l);
    next = within_read format (left - filler) 0 (length b - filler) (omega arith) (omega (arith, l));
  }
  go false e = chain_sound format (take left b) (length b) (omega (arith, long, some)) (omega (arith, long, l))

-- ---- in signature lists

within_list_read : (left size n : ℕ) → 16 ≤ size → left ≤ n → IsRead (within_list left size) n
within_list_read left size n least l = go (left == 0) refl where
  go : (t : Bool) → (left == 0) ≡ t → IsRead (if t then readings.Lists else readings.List left size) n
  go true e = tt
  go false e = let some : 0 < left = grind (arith, nat_tests) in (some, least, l)

-- the sizes of a list, if one begins
pub record Sizes (b : List ℕ) : Type 0 where
  pub headed : 28 ≤ length b
  pub least : 16 ≤ le_at 24 4 b
  pub inside : 28 + le_at 20 4 b ≤ le_at 16 4 b
  pub fits : le_at 16 4 b ≤ length b

pub sizes : (b : List ℕ) → has_list_sizes b ≡ true → Sizes b
sizes b e =
    let a = and_split _ _ e in
    let c = and_split _ _ a.1 in
    let d = and_split _ _ c.1 in record {
      headed = leb-true 28 (length b) a.0;
      least = leb-true 16 (le_at 24 4 b) c.0;
      inside = leb-true (28 + le_at 20 4 b) (le_at 16 4 b) d.0;
      fits = leb-true (le_at 16 4 b) (length b) d.1;
    }

list_sound : (b : List ℕ) → 0 < length b → Sound (list_step b) (length b)
list_sound b some = go (has_list_sizes b) refl where
  go : (t : Bool) → has_list_sizes b ≡ t → Sound (if t then record {
    part = parts.ListHeader (list_in b);
    finding = None;
    length = 28 + le_at 20 4 b;
    next = within_list (le_at 16 4 b - (28 + le_at 20 4 b)) (le_at 24 4 b);
  }
      else passed_step findings.ListSize (length b)) (length b)
  go true e =
      let s = sizes b e in record {
        some = omega arith;
        fits = omega (arith, s.inside, s.fits);
        next = within_list_read (le_at 16 4 b - (28 + le_at 20 4 b)) (le_at 24 4 b) (length b - (28 + le_at 20 4 b)) s.least
            (omega (arith, s.fits));
      }
  go false e = record { some = some; fits = omega arith; next = tt }

signature_sound : (left size : ℕ) (b : List ℕ) → IsRead (readings.List left size) (length b) → Sound (signature_step left size b) (length b)
signature_sound left size b (some, least, l) = go (nat_le size left) refl where
  go : (t : Bool) → nat_le size left ≡ t → Sound (if t then record {
    part = parts.Signature (guid_of (field 0 16 b));
    finding = None;
    length = size;
    next = within_list (left - size) size;
  } else passed_step findings.SignatureSize left) (length b)
  go true e =
      let enough : size ≤ left = leb-true size left e in record {
        some = omega (arith, least);
        fits = omega (arith, enough, l);
        next = within_list_read (left - size) size (length b - size) least (omega (arith, l));
      }
  go false e = record { some = some; fits = l; next = tt }

pub step_sound : (reading : Reading) (b : List ℕ) → 0 < length b → IsRead reading (length b) → Sound (step_at reading b) (length b)
step_sound readings.Outside b some is = outside_sound b some
step_sound readings.Lists b some is = list_sound b some
step_sound (readings.List left size) b some is = signature_sound left size b is
step_sound (readings.Store format left filler) b some is = store_sound format left filler b is
