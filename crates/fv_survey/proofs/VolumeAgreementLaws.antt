-- The tolerant reading of a volume agrees with the strict reading (`agrees`). An image that the strict reading accepts
-- is surveyed as one volume without findings (`accepted_image`), and an image that is surveyed so is accepted
-- (`clean_image`).
use Rattle.std.proofs.Common.{◌≡◌, ◌≤◌, ◌<◌, ◌-◌, ◌==◌, ◌||◌, ℕ, [], ◌∷◌, Bool, true, false, nat_lt, if◌then◌else◌}
use Rattle.std.proofs.Common.{List, length, refl, sym, ap, ◌∙◌, subst, arith, length-drop, take_all}
use Rattle.fv_base.proofs.Laws.{IsBytes, and_join, field, nat_tests}
use Rattle.fv_base.specs.declared.flash.FileSystem.{FileSystem}
use Rattle.fv_base.specs.declared.flash.FileSystem.TheVariants as systems
use Rattle.fv_head.proofs.Laws.{front_extent, front_holds, front_lies}
use Rattle.fv_head.specs.Words.{volume_len_at}
use Rattle.fv_head.specs.declared.extent.Extent.{Extent}
use Rattle.fv_tree.specs.Words.{Accepted, Denotes, Meaning, head_of}
use Rattle.fv_survey.proofs.HeaderAgreementLaws.{clean_begins, same_extent}
use Rattle.fv_survey.proofs.QuietRowLaws.{meaning_rows}
use Rattle.fv_survey.proofs.PortionLaws.{ahead_none, ahead_some}
use Rattle.fv_survey.proofs.RowAgreementLaws.{none_united, portion, rest_of, rows_mean}
use Rattle.fv_survey.proofs.RuleLaws.{start_long}
use Rattle.fv_survey.specs.Words.{Agree, Bare, Forest, IsCleanImage, IsVolumePortion, PortionForm, Reads, Tree, cut, files_by, files_for}
use Rattle.fv_survey.specs.Words.{first_row, first_start, found_volume, has_right_header, image_portion, image_volume, inside_first, is_known, may_begin}
use Rattle.fv_survey.specs.Words.{name_findings, none, parts_by, plain_opening, row_of, run_after, run_row, volume_end, volume_inside}
use Rattle.fv_survey.specs.Words.{volume_said, whole_image}
use Rattle.fv_survey.specs.declared.systems.Files.TheVariants as files
use Rattle.fv_survey.specs.declared.portion.Reading.TheVariants as readings
use Rattle.fv_survey.specs.declared.row.Row.{Row}
use Rattle.fv_survey.specs.declared.row.RowKind.TheVariants as kinds

-- the readings of a volume agree
pub agrees : (n : ℕ) (p : PortionForm) (f : Forest) → IsVolumePortion n p → Reads f (p ∷ []) → Agree n p f
agrees n p f is reads = (
  λ clean. rows_mean n p f is.reading is.levels is.least is.whole is.filed is.bytes reads clean,
  λ m means. meaning_rows n p f m is.reading is.levels is.found means reads,
)

-- ---- a whole image

known : (s : FileSystem) → is_known (files_for s) ≡ true
known systems.Ffs2 = refl
known systems.Ffs3 = refl

begins_here : (b : List ℕ) → may_begin b ≡ true → first_start b ≡ 0
begins_here [] e = refl
begins_here (x ∷ xs) e = rw e refl

-- an accepted image begins with a volume, and the volume has all its bytes
record Starts (b : List ℕ) : Type 0 where
  some : 0 < length b
  start : nat_lt 0 (first_start b) ≡ false
  end : volume_end b ≡ length b

starts : (b : List ℕ) (m : Meaning) → Denotes 8 b m → Starts b
starts b m d =
    let e : Extent = d.extent in
    let same = same_extent b (head_of m) e d.begins in
    let lies = front_lies b (head_of m) e d.begins in
    let holds = front_holds b (head_of m) e d.begins in
    let sure : is_known (files_by (field 16 16 b)) ≡ true = ap is_known same.files ∙ known e.file_system in
    let begins : may_begin b ≡ true = and_join _ _ (and_join _ _ holds.0 holds.1.0) (ap (λ t. t || has_right_header b) sure) in
    let zero : first_start b ≡ 0 = begins_here b begins in
    record {
      some = omega (arith, lies.least, lies.within, d.length_is);
      start = grind (arith, nat_tests, zero);
      end = same.end ∙ sym d.length_is;
    }

-- the rows of an accepted image
image_rows : (b : List ℕ) (m : Meaning) (f : Forest) → Denotes 8 b m → Starts b → Reads f (image_portion b ∷ []) → IsCleanImage b f
image_rows b m Bare d s reads = let bad = reads in cc
image_rows b m (Tree row below after) d s (is, reads, more) =
    let all : field 0 (volume_end b - 0) b ≡ b = take_all (volume_end b - 0) b (omega (arith, s.end)) in
    let volume : found_volume (image_portion b) ≡ image_volume b =
    ap (λ (c : List ℕ). portion readings.Volume (record { depth = 0; levels = 8; found = 7 }) 0 c) all in
    let first : run_row kinds.Gap (image_portion b) ≡ row_of (volume_said true (found_volume (image_portion b)).bytes) (volume_end b)
    (image_portion b) = rw s.start refl in
    let inner : inside_first (image_portion b) [] ≡ volume_inside (image_volume b) [] =
    ap (λ t. if t then [] else volume_inside (found_volume (image_portion b)) []) (ap (λ t. t || (8 == 0)) s.start)
    ∙ ap (λ (q : PortionForm). volume_inside q []) volume in
    let whole : row ≡ row_of (volume_said true (found_volume (image_portion b)).bytes) (volume_end b) (image_portion b) = is ∙ first in
    let rows = meaning_rows 8 (image_volume b) (Tree (first_row (image_volume b)) below Bare) m refl refl (omega arith) d
    (refl, subst (Reads below) inner reads, refl) in
    let none_after : run_after kinds.Gap (image_portion b) [] ≡ [] =
    ahead_none (cut (readings.Run kinds.Gap) (image_portion b).nest (run_row kinds.Gap (image_portion b)).length (length b) (image_portion b)) []
    (no_bytes (run_row kinds.Gap (image_portion b)).length (ap (λ (r : Row). r.length) first ∙ s.end)) in
    record {
      row = row;
      below = below;
      one = ap (Tree row below) (bare after (subst (Reads after) none_after more));
      kind = ap (λ (r : Row). r.kind) whole;
      found = ap (λ (r : Row). r.found) whole;
      size = ap (λ (r : Row). r.length) whole ∙ s.end;
      clean = ap (λ (r : Row). r.findings) whole ∙ ap (λ (c : List ℕ). (volume_said true c).findings) all ∙ (rows.0 refl).0;
      inner = (rows.0 refl).1 refl;
    }
  where
    bare : (g : Forest) → Reads g [] → g ≡ Bare
    bare Bare e = refl
    bare (Tree r i a) e = absurd e

    no_bytes : (n : ℕ) → n ≡ length b → (length (field n (length b - n) b) == 0) ≡ true
    no_bytes n e =
        let zero : length (field n (length b - n) b) ≡ 0 = ap length (rest_of n b) ∙ length-drop n b ∙ omega (arith, e) in
        grind (arith, nat_tests, zero)

-- an image that the strict reading accepts is surveyed as one volume without findings
pub accepted_image : (b : List ℕ) (m : Meaning) (f : Forest) → Accepted b m → Reads f (whole_image b) → IsCleanImage b f
accepted_image b m f (small, d) reads =
    let s = starts b m d in
    image_rows b m f d s (subst (Reads f) (ahead_some (image_portion b) [] (grind (arith, nat_tests, s.some))) reads)

-- an image whose survey is one clean volume, which is not a variable store, is accepted by the strict reading
image_mean : (b : List ℕ) (f : Forest) → IsBytes b → ((parts_by b).files ≡ files.Store → ⊥) → 0 < length b → Reads f (image_portion b ∷ [])
    → IsCleanImage b f → (m : Meaning) × Accepted b m
image_mean b f small filed some reads c =
    let read = subst (λ (g : Forest). Reads g (image_portion b ∷ [])) c.one reads in
    let start : nat_lt 0 (first_start b) ≡ false = at_start (nat_lt 0 (first_start b)) refl read.0 in
    let zero : first_start b ≡ 0 = grind (arith, nat_tests, start) in
    let long : 56 ≤ length b = start_long b some zero in
    let first : run_row kinds.Gap (image_portion b) ≡ row_of (volume_said true (found_volume (image_portion b)).bytes) (volume_end b)
    (image_portion b) = rw start refl in
    let whole : c.row ≡ row_of (volume_said true (found_volume (image_portion b)).bytes) (volume_end b) (image_portion b) = read.0 ∙ first in
    let end : volume_end b ≡ length b = sym (ap (λ (r : Row). r.length) whole) ∙ c.size in
    let all : field 0 (volume_end b - 0) b ≡ b = take_all (volume_end b - 0) b (omega (arith, end)) in
    let volume : found_volume (image_portion b) ≡ image_volume b =
    ap (λ (d : List ℕ). portion readings.Volume (record { depth = 0; levels = 8; found = 7 }) 0 d) all in
    let inner : inside_first (image_portion b) [] ≡ volume_inside (image_volume b) [] =
    ap (λ t. if t then [] else volume_inside (found_volume (image_portion b)) []) (ap (λ t. t || (8 == 0)) start)
    ∙ ap (λ (q : PortionForm). volume_inside q []) volume in
    let clean : (volume_said true b).findings ≡ none =
    sym (ap (λ (r : Row). r.findings) whole ∙ ap (λ (d : List ℕ). (volume_said true d).findings) all) ∙ c.clean in
    let front = clean_begins b small long (none_united (parts_by b).findings (name_findings (parts_by b) b) clean).0 filed in
    let same = same_extent b front.1 front.0 front.2 in
    let length_is : volume_len_at b ≡ length b =
    ap (λ (x : Extent). x.length) (front_extent b front.1 front.0 front.2).1 ∙ sym same.end ∙ end in
    let found = rows_mean 8 (image_volume b) (Tree (first_row (image_volume b)) c.below Bare) refl refl long length_is filed small
    (refl, subst (Reads c.below) inner read.1, refl) (λ plain. (clean, λ kept. c.inner), tt) in
    (found.0, (small, found.1))
  where
    at_start : (t : Bool) → nat_lt 0 (first_start b) ≡ t → c.row ≡ run_row kinds.Gap (image_portion b) → t ≡ false
    at_start false e is = refl
    at_start true e is =
        let first : run_row kinds.Gap (image_portion b) ≡ row_of (plain_opening kinds.Gap none) (first_start b) (image_portion b) = rw e refl in
        let no : false ≡ true = sym (ap (λ (r : Row). r.found) (is ∙ first)) ∙ c.found in cc

-- so an image is accepted by the strict reading exactly if its survey is one clean volume, and not a variable store
pub clean_image : (b : List ℕ) (f : Forest) → IsBytes b → ((parts_by b).files ≡ files.Store → ⊥) → Reads f (whole_image b)
    → IsCleanImage b f → (m : Meaning) × Accepted b m
clean_image b f small filed reads c = go (length b == 0) refl where
  go : (t : Bool) → (length b == 0) ≡ t → (m : Meaning) × Accepted b m
  go true e = absurd (subst (λ (g : Forest). Reads g []) c.one (subst (Reads f) (ahead_none (image_portion b) [] e) reads))
  go false e =
      image_mean b f small filed (grind (arith, nat_tests, e)) (subst (Reads f) (ahead_some (image_portion b) [] e) reads) c
