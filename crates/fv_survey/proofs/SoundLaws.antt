-- A header has no findings exactly if the file system is allowed, and all other checks of the strict reader hold.
use Rattle.std.proofs.Common.{◌≡◌, ◌≢◌, ◌≤◌, ◌%◌, ℕ, List, Bool, ◌&&◌, ◌==◌, true, false, not, nat_le}
use Rattle.std.proofs.Common.{refl, sym, ◌∙◌, subst, arith, length, le-leb, eq-eqb, eqb-true, slice_index}
use Rattle.std.specs.List.{AllByRecursion}
use Rattle.fv_base.proofs.Laws.{and_split, and_join, common_steps}
use Rattle.fv_base.specs.Words.{field}
use Rattle.fv_base.specs.declared.fault.FaultKind.{FaultKind}
use Rattle.fv_base.specs.declared.fault.FaultKind.TheVariants as kinds
use Rattle.fv_head.specs.Words.{has_signature, header_len_at, volume_len_at, is_header_len, has_sum, has_block_map, is_volume_len, has_ext, head_checks}
use Rattle.fv_survey.specs.inner.Sound.{IsSound}
use Rattle.fv_survey.specs.Words.{bits_of, breaks, extent_len, has_blocks, has_header_len, has_strict_len, has_zero_sum, header_end}
use Rattle.fv_survey.specs.Words.{header_findings, is_allowed, is_whole}
use Rattle.fv_survey.proofs.FindingLaws.{none_broken, no_findings}

-- a rule that is not broken holds
unbroken : (t : Bool) → not t ≡ false → t ≡ true
unbroken true e = refl
unbroken false e = cc

broken_not : (t : Bool) → t ≡ true → not t ≡ false
broken_not true e = refl
broken_not false e = cc

-- a HeaderLength that a header may have is where the header ends
strict_end : (b : List ℕ) → has_strict_len b ≡ true → header_end b ≡ header_len_at b
strict_end b e =
    let parts = and_split (is_header_len (header_len_at b)) (nat_le (header_len_at b) (length b)) e in
    let possible : has_header_len b ≡ true = grind (arith, common_steps, and_split, and_join) in
    rw possible refl

-- an FvLength that a volume may have, and that is within the bytes, is the length of the volume
strict_extent : (b : List ℕ) → is_volume_len (header_end b) (volume_len_at b) ≡ true → nat_le (volume_len_at b) (length b) ≡ true
    → extent_len b ≡ volume_len_at b
strict_extent b fits within =
    let least : nat_le (header_end b) (volume_len_at b) ≡ true = (and_split _ _ ((and_split _ _ fits).0)).1 in
    rw (and_join _ _ least within) refl

-- a length that a header may have is even, a multiple of 8 and at least 64
eights_even : (b : List ℕ) → is_header_len (header_len_at b) ≡ true → (header_len_at b % 2 == 0) ≡ true
eights_even b e =
    let eight : header_len_at b % 8 ≡ 0 = eqb-true _ _ ((and_split _ _ ((and_split _ _ e).0)).0) in
    eq-eqb _ 0 (omega (arith, eight))

eights_64 : (b : List ℕ) → is_header_len (header_len_at b) ≡ true → ((header_len_at b % 8 == 0) && nat_le 64 (header_len_at b)) ≡ true
eights_64 b e = (and_split _ _ e).0

-- a header without findings is sound
pub sound_is : (b : List ℕ) → 56 ≤ length b → bits_of (header_findings b) ≡ 0 → IsSound b
sound_is b long none =
    let holds : (t : Bool) (k : FaultKind) → breaks k b ≡ not t → t ≡ true = λ t k e. unbroken t (sym e ∙ none_broken b none k) in
    let whole = and_split _ (nat_le (volume_len_at b) (length b)) (holds (is_whole b) kinds.Truncated refl) in
    let len = holds (has_strict_len b) kinds.HeaderLength refl in
    let end = strict_end b len in
    let fits = holds (is_volume_len (header_end b) (volume_len_at b)) kinds.Length refl in
    let extent = strict_extent b fits whole.1 in
    let zero = holds (has_zero_sum (header_end b) b) kinds.HeaderSum refl in
    let blocks = holds (has_blocks (header_end b) b) kinds.BlockMap refl in
    let ext = holds (has_ext (header_end b) (extent_len b) b) kinds.ExtHeader refl in
    record {
      system = holds (is_allowed (field 16 16 b)) kinds.FileSystem refl;
      checks = (
        λ k. le-leb _ _ long,
        (
          λ k. holds (has_signature b) kinds.Signature refl,
          (
            λ k. absurd (k refl),
            (
              λ k. holds (slice_index b 55 == 2) kinds.Revision refl,
              (
                λ k. (and_split _ _ len).0,
                (
                  λ k. whole.0,
                  (
                    λ k. subst (λ (n : ℕ). has_sum n b ≡ true) end ((and_split _ _ zero).1),
                    (
                      λ k. subst (λ (n : ℕ). has_block_map n b ≡ true) end ((and_split _ _ blocks).1),
                      (
                        λ k. subst (λ (n : ℕ). is_volume_len n (volume_len_at b) ≡ true) end fits,
                        (
                          λ k. whole.1,
                          (
                            λ k. subst (λ (n : ℕ). has_ext n (volume_len_at b) b ≡ true) end (subst (λ (n : ℕ). has_ext (header_end b) n b ≡ true) extent ext),
                            tt,
                          ),
                        ),
                      ),
                    ),
                  ),
                ),
              ),
            ),
          ),
        ),
      );
    }

-- a sound header has no findings
pub sound_has_none : (b : List ℕ) → IsSound b → bits_of (header_findings b) ≡ 0
sound_has_none b sound = no_findings b (λ k. go k) where
  c : AllByRecursion (λ c. c.fault.kind ≢ kinds.FileSystem → c.holds ≡ true) (head_checks b)
  c = sound.checks

  fits : is_header_len (header_len_at b) ≡ true
  fits = c.1.1.1.1.0 (λ e. cc)

  there : nat_le (header_len_at b) (length b) ≡ true
  there = c.1.1.1.1.1.0 (λ e. cc)

  within : nat_le (volume_len_at b) (length b) ≡ true
  within = c.1.1.1.1.1.1.1.1.1.0 (λ e. cc)

  len : has_strict_len b ≡ true
  len = and_join _ _ fits there

  end : header_len_at b ≡ header_end b
  end = sym (strict_end b len)

  zero : has_zero_sum (header_end b) b ≡ true
  zero = subst (λ (n : ℕ). has_zero_sum n b ≡ true) end (and_join _ _ (eights_even b fits) (c.1.1.1.1.1.1.0 (λ e. cc)))

  blocks : has_blocks (header_end b) b ≡ true
  blocks = subst (λ (n : ℕ). has_blocks n b ≡ true) end (and_join _ _ (eights_64 b fits) (c.1.1.1.1.1.1.1.0 (λ e. cc)))

  volume : is_volume_len (header_end b) (volume_len_at b) ≡ true
  volume = subst (λ (n : ℕ). is_volume_len n (volume_len_at b) ≡ true) end (c.1.1.1.1.1.1.1.1.0 (λ e. cc))

  extent : volume_len_at b ≡ extent_len b
  extent = sym (strict_extent b volume within)

  ext : has_ext (header_end b) (extent_len b) b ≡ true
  ext = subst (λ (n : ℕ). has_ext (header_end b) n b ≡ true) extent
      (subst (λ (n : ℕ). has_ext n (volume_len_at b) b ≡ true) end (c.1.1.1.1.1.1.1.1.1.1.0 (λ e. cc)))

  go : (k : FaultKind) → breaks k b ≡ false
  go kinds.Truncated = broken_not _ (and_join _ _ there within)
  go kinds.Signature = broken_not _ (c.1.0 (λ e. cc))
  go kinds.FileSystem = broken_not _ sound.system
  go kinds.Revision = broken_not _ (c.1.1.1.0 (λ e. cc))
  go kinds.HeaderLength = broken_not _ len
  go kinds.HeaderSum = broken_not _ zero
  go kinds.BlockMap = broken_not _ blocks
  go kinds.Length = broken_not _ volume
  go kinds.ExtHeader = broken_not _ ext
  go _ = refl
