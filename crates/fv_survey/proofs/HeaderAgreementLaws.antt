-- The tolerant reading of a header agrees with the strict reading. The steps:
-- 1. If HeaderLength and FvLength pass their checks, the header ends at HeaderLength and the volume at FvLength
--    (`same_ends`).
-- 2. If all checks of a header hold, the header has no findings (`strict_clean`). If it has none, and the volume is
--    not a variable store, all checks hold (`clean_strict`), and so the bytes begin with a volume (`clean_begins`).
-- 3. Where bytes begin with a volume, the reading finds the extent of the strict reading (`same_extent`).
use Rattle.std.proofs.Common.{◌≡◌, ◌≤◌, ℕ, ◌+◌, ◌-◌, ◌%◌, ◌==◌, ◌&&◌, ◌||◌, not, min, Bool, true, false, List, length, drop, refl, sym, ap, ◌∙◌}
use Rattle.std.proofs.Common.{arith, nat_le, nat_lt, if◌then◌else◌}
use Rattle.fv_base.proofs.Laws.{AllHold, IsBytes, Ok, Some, None, and_join, bytes_eq, bytes_eq-Decides, common_steps, field, field-take, header_limit, inl, inr}
use Rattle.fv_base.proofs.Laws.{is_some, nat_tests, none_fails, First, up_to_8}
use Rattle.fv_base.specs.declared.flash.FileSystem.{FileSystem}
use Rattle.fv_base.specs.declared.flash.FileSystem.TheVariants as systems
use Rattle.fv_head.proofs.Laws.{front_decided, front_extent, front_holds, front_lies, first_lies}
use Rattle.fv_head.specs.Words.{BeginsVolume, HeadFields, ext_offset_at, ext_size_at, file_system_at, has_ext}
use Rattle.fv_head.specs.Words.{head_checks, header_len_at, is_header_len, is_volume_len, system_guid, volume_len_at}
use Rattle.fv_head.specs.declared.extent.Extent.{Extent}
use Rattle.fv_head.specs.inner.HeadVerdicts.{extent_at, first_at}
use Rattle.fv_survey.proofs.SoundLaws.{sound_has_none, sound_is}
use Rattle.fv_survey.proofs.StrictLaws.{strict_by}
use Rattle.fv_survey.specs.Words.{SameExtent, bits_of, body_start, cut_before, ext_by, extent_len, files_by, files_for, has_ext_part}
use Rattle.fv_survey.specs.Words.{header_end, header_findings, is_allowed, is_strict, none, system_by, variables_guid}
use Rattle.fv_survey.specs.declared.systems.Files.TheVariants as files

-- ---- where the header and the volume end

-- the header ends at HeaderLength, and the volume at FvLength
pub record SameEnds (b : List ℕ) : Type 0 where
  pub header : header_end b ≡ header_len_at b
  pub extent : extent_len b ≡ volume_len_at b

header_len_fits : (n len : ℕ) → is_header_len n ≡ true → nat_le n len ≡ true
    → (nat_le 56 n && nat_le n header_limit && nat_le n len) ≡ true
header_len_fits n len is within = grind (arith, common_steps, nat_tests, is, within)

pub same_ends : (b : List ℕ) → is_header_len (header_len_at b) ≡ true → nat_le (header_len_at b) (length b) ≡ true
    → nat_le (header_len_at b) (volume_len_at b) ≡ true → nat_le (volume_len_at b) (length b) ≡ true → SameEnds b
same_ends b is within least ends =
    let header : header_end b ≡ header_len_at b = rw (header_len_fits (header_len_at b) (length b) is within) refl in
    record { header = header; extent = rw (header, least, ends) refl }

-- a volume's length is at least the length of its header
volume_len_least : (n len : ℕ) → is_volume_len n len ≡ true → nat_le n len ≡ true
volume_len_least n len is = grind (arith, common_steps, is)

-- ---- the checks and the findings

-- a file system of the strict reading is allowed
system_allowed : (b : List ℕ) → is_some (file_system_at b) ≡ true → is_allowed (field 16 16 b) ≡ true
system_allowed b = go (bytes_eq (field 16 16 b) (system_guid systems.Ffs2)) (bytes_eq (field 16 16 b) (system_guid systems.Ffs3)) where
  go : (s t : Bool) → is_some (if s then Some systems.Ffs2 else (if t then Some systems.Ffs3 else None)) ≡ true
      → (s || t || bytes_eq (field 16 16 b) variables_guid) ≡ true
  go true t is = refl
  go false true is = refl
  go false false is = cc

-- if all checks of a header hold, the header has no findings
pub strict_clean : (b : List ℕ) → AllHold (head_checks b) → header_findings b ≡ none
strict_clean b (long, (signed, (system, (revision, (len, (whole, (sum, (map, (volume, (ends, (ext, _))))))))))) =
    ap (λ n. record { bits = n }) (sound_has_none b (record {
      system = system_allowed b system;
      checks = (
        λ k. long,
        (
          λ k. signed,
          (
            λ k. system,
            (
              λ k. revision,
              (
                λ k. len,
                (
                  λ k. whole,
                  (
                    λ k. sum,
                    (
                      λ k. map,
                      (
                        λ k. volume,
                        (λ k. ends, (λ k. ext, tt)),
                      ),
                    ),
                  ),
                ),
              ),
            ),
          ),
        ),
      );
    }))

-- an allowed file system is a file system of the strict reading, or the volume is a variable store
allowed_system : (b : List ℕ) → is_allowed (field 16 16 b) ≡ true → (files_by (field 16 16 b) ≡ files.Store → ⊥)
    → is_some (file_system_at b) ≡ true
allowed_system b allowed used =
    go (bytes_eq (field 16 16 b) (system_guid systems.Ffs2)) (bytes_eq (field 16 16 b) (system_guid systems.Ffs3))
    (bytes_eq (field 16 16 b) variables_guid) refl allowed
  where
    go : (s t v : Bool) → bytes_eq (field 16 16 b) variables_guid ≡ v → (s || t || v) ≡ true
        → is_some (if s then Some systems.Ffs2 else (if t then Some systems.Ffs3 else None)) ≡ true
    go true t v is allowed = refl
    go false true v is allowed = refl
    go false false true is allowed = absurd (used (ap files_by ((bytes_eq-Decides (field 16 16 b) variables_guid).0 is)))
    go false false false is allowed = cc

-- if a header of at least 56 bytes has no findings, and the volume is not a variable store, all checks of the header
-- hold
pub clean_strict : (b : List ℕ) → 56 ≤ length b → header_findings b ≡ none → (files_by (field 16 16 b) ≡ files.Store → ⊥)
    → AllHold (head_checks b)
clean_strict b long clean used =
    let sound = sound_is b long (ap bits_of clean) in
    let c = sound.checks in (
      c.0 (λ e. cc),
      (
        c.1.0 (λ e. cc),
        (
          allowed_system b sound.system used,
          (
            c.1.1.1.0 (λ e. cc),
            (
              c.1.1.1.1.0 (λ e. cc),
              (
                c.1.1.1.1.1.0 (λ e. cc),
                (
                  c.1.1.1.1.1.1.0 (λ e. cc),
                  (
                    c.1.1.1.1.1.1.1.0 (λ e. cc),
                    (
                      c.1.1.1.1.1.1.1.1.0 (λ e. cc),
                      (c.1.1.1.1.1.1.1.1.1.0 (λ e. cc), (c.1.1.1.1.1.1.1.1.1.1.0 (λ e. cc), tt)),
                    ),
                  ),
                ),
              ),
            ),
          ),
        ),
      ),
    )

-- and then the bytes begin with a volume
pub clean_begins : (b : List ℕ) → IsBytes b → 56 ≤ length b → header_findings b ≡ none
    → (files_by (field 16 16 b) ≡ files.Store → ⊥) → (e : Extent) × (h : HeadFields) × BeginsVolume h e b
clean_begins b small long clean used =
    elim (front_decided b small) [
      | inl begins ↦ begins
      | inr faulty ↦ absurd (none_fails First (head_checks b) faulty.0 faulty.1 (clean_strict b long clean used))
    ]

-- ---- the extent

-- the GUID of the file system of a volume
begun_system : (b : List ℕ) (h : HeadFields) (e : Extent) → BeginsVolume h e b → field 16 16 b ≡ system_guid e.file_system
begun_system b h e begins =
    let long : 16 + 16 ≤ e.header_len = omega (arith, (front_lies b h e begins).least) in
    sym (field-take 16 16 e.header_len b long) ∙ begins.head.file_system ∙ ap system_guid (sym begins.file_system)

pub same_files : (s : FileSystem) → files_by (system_guid s) ≡ files_for s
same_files systems.Ffs2 = refl
same_files systems.Ffs3 = refl

same_system : (s : FileSystem) → system_by (files_for s) ≡ s
same_system systems.Ffs2 = refl
same_system systems.Ffs3 = refl

start_is : (n len : ℕ) → n % 8 ≡ 0 → n ≤ len → min (up_to_8 n) len ≡ n
start_is n len multiple within = omega (arith, multiple, within)

least_is : (n len : ℕ) → n ≤ len → min n len ≡ n
least_is n len within = omega (arith, within)

-- the body begins where the strict reading says
same_first : (b : List ℕ) → SameEnds b → has_ext (header_len_at b) (volume_len_at b) b ≡ true → first_at b % 8 ≡ 0
    → first_at b ≤ length b → body_start b ≡ first_at b
same_first b same ext multiple within = go (ext_offset_at b == 0) refl where
  ext_holds : has_ext (header_end b) (extent_len b) b ≡ true
  ext_holds = ap (λ n. has_ext n (extent_len b) b) same.header ∙ ap (λ n. has_ext (header_len_at b) n b) same.extent ∙ ext

  go : (t : Bool) → (ext_offset_at b == 0) ≡ t → body_start b ≡ first_at b
  go true is =
      let part : has_ext_part b ≡ false = ap (λ t. not t && has_ext (header_end b) (extent_len b) b) is in
      let by : ext_by b ≡ (header_end b, header_end b) =
      ap (λ t. if t then (ext_offset_at b, ext_offset_at b + ext_size_at b) else (header_end b, header_end b)) part in
      let first : first_at b ≡ header_len_at b =
      ap (λ t. if t then header_len_at b else up_to_8 (ext_offset_at b + ext_size_at b)) is in
      ap (λ (p : ℕ × ℕ). min (up_to_8 p.1) (length b)) by ∙ ap (λ n. min (up_to_8 n) (length b)) (same.header ∙ sym first)
      ∙ start_is (first_at b) (length b) multiple within
  go false is =
      let part : has_ext_part b ≡ true = and_join _ _ (ap not is) ext_holds in
      let by : ext_by b ≡ (ext_offset_at b, ext_offset_at b + ext_size_at b) =
      ap (λ t. if t then (ext_offset_at b, ext_offset_at b + ext_size_at b) else (header_end b, header_end b)) part in
      let first : first_at b ≡ up_to_8 (ext_offset_at b + ext_size_at b) =
      ap (λ t. if t then header_len_at b else up_to_8 (ext_offset_at b + ext_size_at b)) is in
      ap (λ (p : ℕ × ℕ). min (up_to_8 p.1) (length b)) by ∙ ap (λ n. min n (length b)) (sym first)
      ∙ least_is (first_at b) (length b) within

not_cut : (n len : ℕ) → nat_le len n ≡ true → nat_lt n len ≡ false
not_cut n len fits = grind (arith, nat_tests, fits)

-- where bytes begin with a volume, the reading finds the extent of the strict reading
pub same_extent : (b : List ℕ) (h : HeadFields) (e : Extent) → BeginsVolume h e b → SameExtent e b
same_extent b h e begins = found (front_holds b h e begins) where
  is : extent_at ((front_extent b h e begins).0) b ≡ e
  is = (front_extent b h e begins).1

  first : first_at b ≡ e.first
  first = ap (λ (x : Extent). x.first) is

  files : files_by (field 16 16 b) ≡ files_for e.file_system
  files = ap files_by (begun_system b h e begins) ∙ same_files e.file_system

  lies : (e.first % 8 ≡ 0) × (e.first ≤ e.length) × (e.length % 8 ≡ 0)
  lies = first_lies b h e begins

  strict : is_strict b ≡ true
  strict = sym (strict_by b (Ok e) (h, begins) tt)

  found : AllHold (head_checks b) → SameExtent e b
  found (long, (signed, (system, (revision, (len, (whole, (sum, (map, (volume, (ends, (ext, _))))))))))) =
      let same = same_ends b len whole (volume_len_least _ _ volume) ends in
      let multiple : first_at b % 8 ≡ 0 = rw first lies.0 in
      let within : first_at b ≤ length b = rw first (omega (arith, lies.1, begins.is_within)) in
      record {
        header = same.header ∙ ap (λ (x : Extent). x.header_len) is;
        first = same_first b same ext multiple within ∙ first;
        files = files;
        system = ap system_by files ∙ same_system e.file_system;
        polarity = ap (λ (x : Extent). x.polarity) is;
        whole = not_cut (length b) (volume_len_at b) ends;
        findings = strict_clean b (front_holds b h e begins);
        end = ap (λ t. if t then extent_len b else 56 + cut_before (extent_len b - 56) (drop 56 b)) strict ∙ same.extent
            ∙ ap (λ (x : Extent). x.length) is;
      }
