-- What the rules of a tolerant reading say of lengths.
use Rattle.std.proofs.Common.{◌≡◌, ◌≤◌, ◌<◌, ◌==◌, ◌&&◌, ◌||◌, ℕ, Bool, not, nat_le, if◌then◌else◌, List, length, drop, refl, subst, arith, false, true, leb-true}
use Rattle.fv_base.proofs.Laws.{and_split}
use Rattle.fv_head.specs.Words.{is_one_volume}
use Rattle.fv_tree.specs.Words.{group_kind, volume_kind}
use Rattle.fv_section.specs.Words.{has_extended_size, section_header_len, up_to_4}
use Rattle.fv_section.specs.Words.{section_header_len_at, section_size_at}
use Rattle.fv_survey.specs.Words.{begins_section, begins_usual, body_form, first_start, may_begin, may_follow, next_section, section_end}
use Rattle.fv_survey.specs.declared.section_step.BodyForm.TheVariants as forms
pub use Rattle.fv_survey.proofs.PieceBoundLaws.{piece_lies}
pub use Rattle.fv_survey.proofs.StartLaws.{start_within, start_begins, begins_long}
pub use Rattle.fv_survey.proofs.VolumeLaws.{volume_end_lies, parts_lie}

-- if a volume may begin with the first of the bytes, there are at least 56
pub start_long : (b : List ℕ) → 0 < length b → first_start b ≡ 0 → 56 ≤ length b
start_long b some e = begins_long b (subst (λ (n : ℕ). may_begin (drop n b) ≡ true) e (start_begins b (omega (arith, some, e))))

-- a section lies within the bytes that it begins
pub record SectionLies (b : List ℕ) : Type 0 where
  pub header : 4 ≤ section_header_len_at b
  pub size : section_header_len_at b ≤ section_size_at b
  pub next : section_size_at b ≤ next_section (section_size_at b) b
  pub within : next_section (section_size_at b) b ≤ length b

pub section_lies : (b : List ℕ) → begins_section b ≡ true → SectionLies b
section_lies b e =
    let parts = and_split _ _ e in
    let sizes = and_split _ _ parts.1 in
    let ends = and_split _ _ sizes.1 in
    let u : section_size_at b ≤ length b = leb-true _ _ ends.1 in
    record {
      header = least (has_extended_size b);
      size = leb-true _ _ ends.0;
      next = after (not (may_follow (drop (section_end (section_size_at b) b) b)) && begins_usual (drop (section_size_at b) b)) (section_size_at b) u;
      within = before (not (may_follow (drop (section_end (section_size_at b) b) b)) && begins_usual (drop (section_size_at b) b)) (section_size_at b) u;
    }
  where
    least : (v : Bool) → 4 ≤ section_header_len v
    least false = omega arith
    least true = omega arith

    end_after : (v : Bool) (n : ℕ) → n ≤ length b → n ≤ (if v then up_to_4 n else length b)
    end_after true n u = omega arith
    end_after false n u = u

    end_before : (v : Bool) (n : ℕ) → nat_le (up_to_4 n) (length b) ≡ v → (if v then up_to_4 n else length b) ≤ length b
    end_before true n e = leb-true _ _ e
    end_before false n e = omega arith

    after : (v : Bool) (n : ℕ) → n ≤ length b → n ≤ (if v then n else section_end n b)
    after true n u = omega arith
    after false n u = end_after (nat_le (up_to_4 n) (length b)) n u

    before : (v : Bool) (n : ℕ) → n ≤ length b → (if v then n else section_end n b) ≤ length b
    before true n u = u
    before false n u = end_before (nat_le (up_to_4 n) (length b)) n refl

-- and its body
pub volume_long : (kind : ℕ) (b : List ℕ) → body_form kind b ≡ forms.Volume → 56 ≤ length b
volume_long kind b e = go (kind == group_kind) ((kind == volume_kind) && is_one_volume b) refl ((kind == 0x01) || (kind == 0x02)) e where
  go : (v w : Bool) → ((kind == volume_kind) && is_one_volume b) ≡ w → (x : Bool)
      → (if v then forms.Group else (if w then forms.Volume else (if x then forms.Packed else forms.Plain))) ≡ forms.Volume → 56 ≤ length b
  go true w d x e = let p : forms.Group ≡ forms.Volume = e in cc
  go false false d true e = let p : forms.Packed ≡ forms.Volume = e in cc
  go false false d false e = let p : forms.Plain ≡ forms.Volume = e in cc
  go false true d x e = leb-true _ _ ((and_split _ _ ((and_split _ _ ((and_split _ _ ((and_split _ _ d).1)).0)).0)).0)
