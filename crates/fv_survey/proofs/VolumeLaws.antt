-- The parts of a volume whose header may be damaged lie within its bytes, one after the other.
use Rattle.std.proofs.Common.{◌≡◌, ◌≤◌, ◌<◌, ◌+◌, ◌-◌, ◌&&◌, ℕ, zero, suc, List, Bool, true, false, drop, length}
use Rattle.std.proofs.Common.{if◌then◌else◌, refl, sym, ap, ◌∙◌, subst, arith, nat_le, drop-drop, leb-true}
use Rattle.fv_base.proofs.Laws.{and_split, common_steps}
use Rattle.fv_base.specs.Words.{up_to_8}
use Rattle.fv_head.specs.Words.{header_len_at, volume_len_at, ext_offset_at, ext_size_at}
use Rattle.fv_survey.specs.Words.{cut_before, ends_after, ext_by, extent_len, has_ext_part, has_header_len, header_end, is_strict}
use Rattle.fv_survey.specs.Words.{mapped_end, parts_by, volume_end}
use Rattle.fv_survey.specs.inner.Bounds.{PartsLie}
use Rattle.fv_survey.proofs.MapLaws.{mapped_lies}

-- ---- the header and the volume

pub header_lies : (b : List ℕ) → 56 ≤ length b → (56 ≤ header_end b) × (header_end b ≤ length b)
header_lies b long = go (has_header_len b) refl where
  go : (t : Bool) → has_header_len b ≡ t
      → (let n : ℕ = if t then header_len_at b else mapped_end b in (56 ≤ n) × (n ≤ length b))
  go true is =
      let parts = and_split _ (nat_le (header_len_at b) (length b)) is in
      let front = and_split (nat_le 56 (header_len_at b)) _ parts.0 in
      (leb-true _ _ front.0, leb-true _ _ parts.1)
  go false is = mapped_lies b long

pub extent_lies : (b : List ℕ) → 56 ≤ length b → (56 ≤ extent_len b) × (extent_len b ≤ length b)
extent_lies b long = go (nat_le (header_end b) (volume_len_at b) && nat_le (volume_len_at b) (length b)) refl where
  go : (t : Bool) → (nat_le (header_end b) (volume_len_at b) && nat_le (volume_len_at b) (length b)) ≡ t
      → (let n : ℕ = if t then volume_len_at b else length b in (56 ≤ n) × (n ≤ length b))
  go true is =
      let parts = and_split _ _ is in
      let lies = header_lies b long in
      let least : header_end b ≤ volume_len_at b = leb-true _ _ parts.0 in
      (omega (arith, lies.0, least), leb-true _ _ parts.1)
  go false is = (long, omega arith)

-- ---- the cut of a volume whose header is not strict

pub cut_most : (n : ℕ) (b : List ℕ) → cut_before n b ≤ n
cut_most zero b = omega arith
cut_most (suc n) b = go (ends_after (suc n) b) (cut_most n (drop 1 b)) where
  go : (t : Bool) → cut_before n (drop 1 b) ≤ n → (if t then 0 else suc (cut_before n (drop 1 b))) ≤ suc n
  go true ih = omega arith
  go false ih = omega (arith, ih)

-- the first place where a volume with a strict header begins that ends after the first n bytes, or n
pub cut_is : (n : ℕ) (b : List ℕ) (at : ℕ) → at ≤ n
    → ((k : ℕ) → k < at → (m : ℕ) → k + m ≡ n → ends_after m (drop k b) ≡ false)
    → (at < n → (m : ℕ) → at + m ≡ n → ends_after m (drop at b) ≡ true) → cut_before n b ≡ at
cut_is zero b at within before here = omega (arith, within)
cut_is (suc n) b zero within before here = rw (here (omega arith) (suc n) (omega arith)) refl
cut_is (suc n) b (suc at) within before here =
    let moved : (k m : ℕ) (t : Bool) → ends_after m (drop (suc k) b) ≡ t → ends_after m (drop k (drop 1 b)) ≡ t =
    λ k m t e. let place : suc k ≡ 1 + k = omega arith in
    subst (λ (c : List ℕ). ends_after m c ≡ t) (ap (λ (i : ℕ). drop i b) place ∙ sym (drop-drop k 1 b)) e in
    let later : cut_before n (drop 1 b) ≡ at = cut_is n (drop 1 b) at (omega (arith, within))
    (λ k l m e. moved k m false (before (suc k) (omega (arith, l)) m (omega (arith, e))))
    (λ l m e. moved at m true (here (omega (arith, l)) m (omega (arith, e)))) in
    rw (before 0 (omega arith) (suc n) (omega arith)) (ap suc later)

pub volume_end_lies : (b : List ℕ) → 56 ≤ length b → (56 ≤ volume_end b) × (volume_end b ≤ length b)
volume_end_lies b long = go (is_strict b) where
  lies : (56 ≤ extent_len b) × (extent_len b ≤ length b)
  lies = extent_lies b long

  go : (t : Bool) → (let n : ℕ = if t then extent_len b else 56 + cut_before (extent_len b - 56) (drop 56 b) in (56 ≤ n) × (n ≤ length b))
  go true = lies
  go false = (omega arith, omega (arith, lies.0, lies.1, cut_most (extent_len b - 56) (drop 56 b)))

-- ---- the parts before the body

up_least : (n : ℕ) → n ≤ up_to_8 n
up_least n = omega arith

-- an extended header that is there has 20 bytes after the header and within the volume
ext_there : (b : List ℕ) → has_ext_part b ≡ true
    → (header_end b ≤ ext_offset_at b) × (20 ≤ ext_size_at b) × (ext_offset_at b + ext_size_at b ≤ extent_len b)
ext_there b e = grind (arith, common_steps, and_split)

pub ext_lies : (b : List ℕ) → 56 ≤ length b
    → (header_end b ≤ (ext_by b).0) × ((ext_by b).0 ≤ (ext_by b).1) × ((ext_by b).1 ≤ length b)
    × ((ext_by b).0 ≡ (ext_by b).1 → (ext_by b).0 ≡ header_end b)
ext_lies b long = go (has_ext_part b) refl where
  go : (t : Bool) → has_ext_part b ≡ t
      → (let e : ℕ × ℕ = if t then (ext_offset_at b, ext_offset_at b + ext_size_at b) else (header_end b, header_end b) in
      (header_end b ≤ e.0) × (e.0 ≤ e.1) × (e.1 ≤ length b) × (e.0 ≡ e.1 → e.0 ≡ header_end b))
  go true is =
      let there = ext_there b is in
      let lies = extent_lies b long in
      (there.0, omega arith, omega (arith, there.2, lies.1), λ same. absurd (omega (arith, same, there.1)))
  go false is = (omega arith, omega arith, (header_lies b long).1, λ same. refl)

pub parts_lie : (b : List ℕ) → 56 ≤ length b → PartsLie (length b) (parts_by b)
parts_lie b long =
    let ext = ext_lies b long in
    record {
      header = (header_lies b long).0;
      ext = ext.0;
      end = ext.1;
      first = omega (arith, ext.2, up_least (ext_by b).1);
      within = omega arith;
      bare = ext.3;
    }
