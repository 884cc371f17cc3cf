-- The section that some bytes begin with, by its checks. The steps:
-- 1. A frame at the start is this section (`begun`).
-- 2. If there is none, the first check that fails says why (`faulty`).
-- 3. The section lies within the bytes, and so does the place where the next section begins (`section_lies`).
use Rattle.std.proofs.Common.{◌≡◌, ◌≤◌, ◌<◌, ℕ, List, length, refl, sym, ap, ◌∙◌, arith, Bool, true, false, nat_le, nat_lt}
use Rattle.std.proofs.Common.{◌==◌, ◌||◌, Option, Some, None, Result, Ok, Err, IfOk, IfErr, IfSome, IfNone}
use Rattle.std.specs.Result.{is_ok}
use Rattle.fv_base.proofs.Laws.{and_join, first_is, one_fault, none_fails, nat_tests}
use Rattle.fv_base.specs.Words.{outer_fault, IsFirstFault, First}
use Rattle.fv_base.specs.declared.fault.Fault.{Fault}
use Rattle.fv_base.specs.declared.fault.FaultKind.{FaultKind}
use Rattle.fv_base.specs.declared.fault.FaultKind.TheVariants as faults
use Rattle.fv_section.proofs.Laws.{frame_reads}
use Rattle.fv_section.specs.declared.frame.Frame.{Frame}
use Rattle.fv_section.specs.Words.{FrameForm, frame_form, HasFrameAt, frame_checks, has_section_size, section_header_len, section_header_len_at, section_size_at, frame_len}
use Rattle.fv_survey.specs.declared.portion.Reading.TheVariants as readings
use Rattle.fv_survey.specs.declared.row.RowKind.TheVariants as kinds
use Rattle.fv_survey.specs.declared.section_step.SectionPlace.{SectionPlace}
use Rattle.fv_survey.specs.Words.{PortionForm, ahead, begins_section, begins_usual, body_at, cut, inside, kind_at, may_follow, none, only}
use Rattle.fv_survey.specs.Words.{place_findings, section_findings, sections_after, sections_inside}
use Rattle.fv_survey.specs.inner.Fitting.{IsPlace, body_at_place}

-- the bytes begin with this frame
pub record Begun (f : FrameForm) (b : List ℕ) : Type 0 where
  pub begins : begins_section b ≡ true
  pub header : section_header_len_at b ≡ section_header_len f.extended
  pub size : section_size_at b ≡ frame_len f
  pub kind : kind_at b ≡ f.kind
  pub body : body_at b ≡ f.body

pub begun : (f : FrameForm) (b : List ℕ) → HasFrameAt f 0 b → Begun f b
begun f b h =
    let r = frame_reads f b h.rest h.begins in
    record {
      begins = and_join _ _ ((r.checks 0).0) ((r.checks 0).1.0);
      header = ap (λ (g : FrameForm). section_header_len g.extended) r.frame_is;
      size = r.size_is;
      kind = ap (λ (g : FrameForm). g.kind) r.frame_is;
      body = ap (λ (g : FrameForm). g.body) r.frame_is;
    }

-- the bytes begin with no section, for this reason
pub record NotBegun (f : Fault) (b : List ℕ) : Type 0 where
  pub none : begins_section b ≡ false
  pub why : only f.kind ≡ section_findings b

pub faulty : (f : Fault) (b : List ℕ) → IsFirstFault (frame_checks 0 b) f → NotBegun f b
faulty f b first = go (nat_le 4 (length b)) refl (has_section_size b) refl where
  kind_is : (k : FaultKind) → IsFirstFault (frame_checks 0 b) (outer_fault k 0) → f.kind ≡ k
  kind_is k other = ap (λ (g : Fault). g.kind) (one_fault (frame_checks 0 b) f (outer_fault k 0) first other)

  go : (v : Bool) → nat_le 4 (length b) ≡ v → (w : Bool) → has_section_size b ≡ w → NotBegun f b
  go false e w d =
      let short : nat_lt (length b) 4 ≡ true = grind (arith, nat_tests, e) in
      record {
        none = rw e refl;
        why = ap only (kind_is faults.SectionTail (first_is (frame_checks 0 b) (outer_fault faults.SectionTail 0) (rw e refl))) ∙ (rw short refl);
      }
  go true e false d =
      let long : nat_lt (length b) 4 ≡ false = grind (arith, nat_tests, e) in
      record {
        none = rw (e, d) refl;
        why = ap only (kind_is faults.SectionSize (first_is (frame_checks 0 b) (outer_fault faults.SectionSize 0) (rw (e, d) refl))) ∙ (rw long refl);
      }
  go true e true d = absurd (none_fails First (frame_checks 0 b) f first (e, (d, tt)))

-- what a call of `next_frame` says about a section that may follow
pub follow_is : (r : Result (Option Frame) Fault) (b : List ℕ) → IfOk r (λ o. IfSome o (λ f. HasFrameAt (frame_form f) 0 b))
    → IfOk r (λ o. IfNone o (length b ≤ 0)) → IfErr r (IsFirstFault (frame_checks 0 b))
    → IfErr r (λ e. (e.place.offset ≡ 0) × (0 < length b)) → is_ok r ≡ may_follow b
follow_is (Ok (Some f)) b found past first place =
    let e : begins_section b ≡ true = (begun (frame_form f) b found).begins in
    go (length b == 0) e
  where
    go : (v : Bool) → begins_section b ≡ true → true ≡ (v || begins_section b)
    go true e = refl
    go false e = sym e
follow_is (Ok None) b found past first place = let e : (length b == 0) ≡ true = grind (arith, nat_tests, past) in rw e refl
follow_is (Err f) b found past first place =
    let e : (length b == 0) ≡ false = grind (arith, nat_tests, place.1) in
    rw (e, (faulty f b first).none) refl

-- and about a section of a usual type
pub usual_never : (f : Fault) (b : List ℕ) → IsFirstFault (frame_checks 0 b) f → false ≡ begins_usual b
usual_never f b first = rw ((faulty f b first).none) refl

-- the portions of a section that was read, and the portions after it
pub section_inside : (p : PortionForm) (s : SectionPlace) (later : List PortionForm) → IsPlace p.bytes s
    → sections_inside p (sections_after p later)
    ≡ ahead (cut (readings.Leaf kinds.SectionHeader none) (inside p.nest) 0 s.header p)
    (ahead (body_at_place (inside p.nest) s p)
    (ahead (cut (readings.Leaf kinds.Filler none) p.nest s.size s.next p)
    (ahead (cut (readings.Sections (place_findings s.next (length p.bytes))) p.nest s.next (length p.bytes) p) later)))
section_inside p s later is = rw (is.begins, is.header, is.size, is.form, is.next) refl

-- four portions ahead of others
pub four_same : (a b c d a' b' c' d' : PortionForm) (later : List PortionForm) → a ≡ a' → b ≡ b' → c ≡ c' → d ≡ d'
    → ahead a (ahead b (ahead c (ahead d later))) ≡ ahead a' (ahead b' (ahead c' (ahead d' later)))
four_same a b c d a' b' c' d' later p q r s = rw (p, q, r, s) refl
