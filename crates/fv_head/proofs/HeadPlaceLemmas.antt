-- The fields of a volume header are read at their offsets, and bytes begin with at most one volume. The steps:
-- 1. The fields of the header and the extended header are read at their offsets (`kept_fields`, `ext_there`).
-- 2. So bytes begin with at most one volume (`one_front`), and only the volume's own bytes decide which (`front_same`).
--    The checks of its header hold (`front_holds`), and its extent follows from the header (`front_system`).
-- 3. The header and the start of the first file lie within the volume (`front_lies`, `first_lies`).
use Rattle.std.proofs.Common.{◌≡◌, ◌≤◌, ℕ, ◌+◌, ◌-◌, ◌%◌, rules}
use Rattle.fv_base.proofs.Laws.{zero, suc, List, length, take, refl, sym, ap, ◌∙◌, subst, arith, inl, inr, Option, Some, slice_index, length-take-le}
use Rattle.fv_base.proofs.Laws.{common_steps, AllHold, volume_limit, header_limit, ext_limit, field, le_at, all_hold, take-take_le}
use Rattle.fv_base.specs.declared.flash.FileSystem.{FileSystem}
use Rattle.fv_base.specs.inner.Verdicts.{first_fault}
use Rattle.fv_head.specs.Words.{Extension, IsExt, HasExt, HeadFields, IsHead, BeginsVolume, head_checks, file_system_at, volume_len_at, ext_offset_at}
use Rattle.fv_head.specs.Words.{ext_size_at, pairs_of}
use Rattle.fv_head.specs.declared.extent.Extent.{Extent}
use Rattle.fv_head.specs.inner.HeadVerdicts.{ExtHeaderWithin, extent_at}
use Rattle.fv_head.proofs.ExtLemmas.{make_has_ext, placed_there, one_has_ext, ext_same}
use Rattle.fv_head.proofs.HeadCheckLemmas.{extent_ok, front_within, fields_are, front_fields, front_only, verdict_ok}

-- the values that are read at the offsets of a header, with its extended header, are its fields
pub kept_fields : (b : List ℕ) (e : Extent) (z : List ℕ) (l a r : ℕ) (bs : List (ℕ × ℕ)) (x : Option Extension)
    → (h : HeadFields) × BeginsVolume h e b → z ≡ field 0 16 b
    → l ≡ volume_len_at b → a ≡ le_at 44 4 b → r ≡ slice_index b 54 → bs ≡ pairs_of (field 56 (e.header_len - 64) b) → HasExt x e b
    → (let made : HeadFields =
    record { zero_vector = z; file_system = e.file_system; length = l; attributes = a; reserved = r; blocks = bs; ext = x } in
    BeginsVolume made e b)
kept_fields b e z l a r bs x found p q s t u ext = grind (arith, common_steps, front_within, one_has_ext, fields_are, front_fields)

-- the extended header at ExtHeaderOffset lies within the bytes, and is the volume's extended header
pub record ExtThere (e : Extent) (b : List ℕ) : Type 0 where
  pub header : ext_offset_at b + 20 ≤ length b
  pub within : ext_offset_at b + ext_size_at b ≤ length b
  pub least : 20 ≤ ext_size_at b
  pub most : ext_size_at b ≤ ext_limit
  pub size : le_at 16 4 (field (ext_offset_at b) (ext_size_at b) b) ≡ ext_size_at b
  pub read : (x : Extension) → IsExt x (field (ext_offset_at b) (ext_size_at b) b) → HasExt (Some x) e b

pub ext_there : {b : List ℕ} {e : Extent} {offset : ℕ} → ((h : HeadFields) × BeginsVolume h e b) → offset ≡ ext_offset_at b
    → (offset ≡ 0 → ⊥)
    → ExtThere e b
ext_there {b} {e} {offset} found at some =
    let front = found.1 in
    let s = (placed_there found.0.ext e b front.ext (λ none. some (at ∙ none))).1 in
    record {
      header = omega (arith, s.least, s.within, front.is_within);
      within = omega (arith, s.within, front.is_within);
      least = s.least;
      most = s.most;
      size = s.size;
      read = λ x is. make_has_ext x e b (ext_size_at b) front.is_within s.behind_header s.within s.first is;
    }

-- bytes begin with at most one volume
pub one_front : (b : List ℕ) (h k : HeadFields) (e x : Extent) → BeginsVolume h e b → BeginsVolume k x b → (h ≡ k) × (e ≡ x)
one_front b h k e x front other = search (rules, front_only, one_has_ext, front_fields)

-- the extent of a volume is read from its header, with the file system that is found there
pub front_system : (b : List ℕ) (h : HeadFields) (e : Extent) → BeginsVolume h e b
    → (fs : FileSystem) × (file_system_at b ≡ Some fs) × (extent_at fs b ≡ e)
front_system b h e front =
    extent_ok (file_system_at b) _ b e (verdict_ok (first_fault (head_checks b)) b e (front_only b h e front)).1

-- a volume has no extended header, or the first bytes of the extended header lie within the bytes
pub ext_within : (b : List ℕ) (h : HeadFields) (e : Extent) → BeginsVolume h e b → ExtHeaderWithin b
ext_within b h e front = go (ext_offset_at b) refl where
  go : (n : ℕ) → ext_offset_at b ≡ n → ExtHeaderWithin b
  go zero is = inl is
  go (suc n) is = inr (ext_there {b = b} {e = e} {offset = ext_offset_at b} (h, front) refl (λ none. omega (arith, is, none))).header

-- ---- laws for the crates above

-- if bytes begin with a volume, the checks of its header hold
pub front_holds : (b : List ℕ) (h : HeadFields) (e : Extent) → BeginsVolume h e b → AllHold (head_checks b)
front_holds b h e front = all_hold (head_checks b) (verdict_ok (first_fault (head_checks b)) b e (front_only b h e front)).0

-- the extent of a volume follows from its header
pub front_extent : (b : List ℕ) (h : HeadFields) (e : Extent) → BeginsVolume h e b → (fs : FileSystem) × (extent_at fs b ≡ e)
front_extent b h e front = let x = front_system b h e front in (x.0, x.2)

-- the header lies within the volume, and the volume is within the limit
pub record Lies (e : Extent) : Type 0 where
  pub least : 64 ≤ e.header_len
  pub most : e.header_len ≤ header_limit
  pub within : e.header_len ≤ e.length
  pub limit : e.length ≤ volume_limit

pub front_lies : (b : List ℕ) (h : HeadFields) (e : Extent) → BeginsVolume h e b → Lies e
front_lies b h e f = grind (arith, common_steps, length-take-le)

-- the first file may begin at a multiple of 8 within the volume, whose length is a multiple of 8
pub first_lies : (b : List ℕ) (h : HeadFields) (e : Extent) → BeginsVolume h e b
    → (e.first % 8 ≡ 0) × (e.first ≤ e.length) × (e.length % 8 ≡ 0)
first_lies b h e f = search rules

-- if b begins with a volume, and c has the same first FvLength bytes, c begins with the same volume
pub front_same : (b c : List ℕ) (h : HeadFields) (e : Extent) → BeginsVolume h e b → e.length ≤ length c → take e.length c ≡ take e.length b
    → BeginsVolume h e c
front_same b c h e f long same =
    let lies = front_lies b h e f in
    let first : take e.header_len c ≡ take e.header_len b =
    sym (take-take_le e.header_len e.length c lies.within) ∙ ap (take e.header_len) same
    ∙ take-take_le e.header_len e.length b lies.within in
    record {
      head = subst (IsHead h) (sym first) f.head;
      long_enough = omega (arith, lies.within, long);
      is_within = long;
      ext = ext_same h.ext e b c lies.least lies.within f.ext long same;
      length_is = f.length_is;
      file_system = f.file_system;
      polarity = f.polarity;
    }
