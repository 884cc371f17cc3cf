-- A stream of sections is read without findings exactly if the strict reading gives it a meaning, if this is so of the
-- bodies of its sections. The steps:
-- 1. Frames with a meaning make a clean stream (`frames_clean`), and a clean stream has frames with clean bodies
--    (`bodies_clean`), and so a meaning (`stream_means`).
-- 2. A test decides which bodies are opened as a volume (`opens_decides`). So the form in which a body is read agrees
--    with its meaning (`body_clean`, `body_means`).
use Rattle.std.proofs.Common.{◌≡◌, ◌≢◌, ◌≤◌, ◌+◌, ◌==◌, ◌&&◌, ◌||◌, ◌++◌, ℕ, [], ◌∷◌, Bool, true, false, if◌then◌else◌}
use Rattle.std.proofs.Common.{List, length, drop, refl, sym, ap, ◌∙◌, subst, arith, zero, suc, length-drop, eq-eqb, eqb-true}
use Rattle.std.specs.List.{AllByRecursion}
use Rattle.fv_base.proofs.Laws.{IsBytes, and_join, and_split, bytes_back, drop_all, up_is_not_down}
use Rattle.fv_head.specs.Words.{is_one_volume}
use Rattle.fv_section.proofs.Laws.{begun_bytes}
use Rattle.fv_section.specs.Words.{FrameForm, SplitsFrom, frame_len, up_to_4}
use Rattle.fv_tree.proofs.Laws.{opens_decides}
use Rattle.fv_tree.specs.Words.{Group, Leaf, Meaning, Nested, Opens, Pairwise, Section, SectionMeaning, SectionOver, SectionRelation}
use Rattle.fv_tree.specs.Words.{StreamOver, StreamRelation, VolumeRelation, group_kind, sections_from, sections_list, volume_kind}
use Rattle.fv_survey.specs.inner.CleanParts.{CleanSections}
use Rattle.fv_survey.proofs.RuleLaws.{section_lies}
use Rattle.fv_survey.proofs.SectionAgreementLaws.{clean_split, placed_end, placed_four, split_read}
use Rattle.fv_survey.specs.Words.{Clean, CleanBody, CleanStream, SameSection, SectionsAs, body_at, body_form, kind_at, next_at}
use Rattle.fv_survey.specs.declared.section_step.BodyForm.{BodyForm}
use Rattle.fv_survey.specs.declared.section_step.BodyForm.TheVariants as forms

-- ---- streams

module _ (body : BodyForm → Clean) where
  -- the body of this frame has no findings
  abbrev pub CleanFrame : FrameForm → Type 0
  CleanFrame f = body (body_form f.kind f.body) f.body

  -- the section that is read as a frame has the same body
  same_body : (f : FrameForm) (b : List ℕ) → SameSection f b → CleanFrame f → body (body_form (kind_at b) (body_at b)) (body_at b)
  same_body f b same clean =
      subst (λ (k : ℕ). body (body_form k (body_at b)) (body_at b)) (sym same.kind)
      (subst (λ (c : List ℕ). body (body_form f.kind c) c) (sym same.body) clean)

  frame_body : (f : FrameForm) (b : List ℕ) → SameSection f b → body (body_form (kind_at b) (body_at b)) (body_at b) → CleanFrame f
  frame_body f b same clean =
      subst (λ (c : List ℕ). body (body_form f.kind c) c) same.body
      (subst (λ (k : ℕ). body (body_form k (body_at b)) (body_at b)) same.kind clean)

  none_left : (n : ℕ) → CleanStream body n []
  none_left zero = tt
  none_left (suc n) = λ some. absurd (omega (arith, some))

  -- frames with clean bodies make a clean stream
  pub frames_clean : (n at : ℕ) (frames : List FrameForm) (tail : ℕ) (b : List ℕ) → SectionsAs at frames tail b
      → AllByRecursion CleanFrame frames → CleanStream body n b
  frames_clean zero at frames tail b read all = tt
  frames_clean (suc n) at [] tail b (empty, _) all = λ some. absurd (omega (arith, some, ap length empty))
  frames_clean (suc n) at (f ∷ []) tail b (same, place, next, _) all = λ some. (
    same.begins,
    placed_end (next_at b) (length b) next,
    same_body f b same all.0,
    subst (CleanStream body n) (sym (drop_all (next_at b) b (omega (arith, next)))) (none_left n),
  )
  frames_clean (suc n) at (f ∷ g ∷ fs) tail b (same, place, next, inside, more) all = λ some. (
    same.begins,
    placed_four (next_at b) (length b) (omega (arith, next)),
    same_body f b same all.0,
    frames_clean n (at + next_at b) (g ∷ fs) tail (drop (next_at b) b) more all.1,
  )

  -- the frames of a clean stream have clean bodies
  pub bodies_clean : (n at : ℕ) (frames : List FrameForm) (tail : ℕ) (b : List ℕ) → length b ≤ n → SectionsAs at frames tail b
      → CleanStream body n b → AllByRecursion CleanFrame frames
  bodies_clean n at [] tail b few read clean = tt
  bodies_clean zero at (f ∷ []) tail b few read clean =
      let lies = section_lies b read.0.begins in absurd (omega (arith, few, lies.header, lies.size, lies.next, lies.within))
  bodies_clean zero at (f ∷ g ∷ fs) tail b few read clean =
      let lies = section_lies b read.0.begins in absurd (omega (arith, few, lies.header, lies.size, lies.next, lies.within))
  bodies_clean (suc n) at (f ∷ []) tail b few (same, place, next, _) clean =
      let lies = section_lies b same.begins in
      let here = clean (omega (arith, lies.header, lies.size, lies.next, lies.within)) in
      (frame_body f b same here.2, tt)
  bodies_clean (suc n) at (f ∷ g ∷ fs) tail b few (same, place, next, inside, more) clean =
      let lies = section_lies b same.begins in
      let here = clean (omega (arith, lies.header, lies.size, lies.next, lies.within)) in (
        frame_body f b same here.2,
        bodies_clean n (at + next_at b) (g ∷ fs) tail (drop (next_at b) b)
            (omega (arith, length-drop (next_at b) b, lies.header, lies.size, lies.next, lies.within, few)) more here.3,
      )

  -- the sections of a clean stream are clean
  pub clean_sections : (n : ℕ) (b : List ℕ) → CleanStream body n b → CleanSections n b
  clean_sections zero b clean = tt
  clean_sections (suc n) b clean = λ some. let here = clean some in (here.0, here.1, clean_sections n (drop (next_at b) b) here.3)

-- the bodies of the frames of a list of bytes are lists of bytes
frames_bytes : (at : ℕ) (frames : List FrameForm) (tail : ℕ) (b : List ℕ) → IsBytes b → SplitsFrom at frames tail b
    → AllByRecursion (λ (f : FrameForm). IsBytes f.body) frames
frames_bytes at [] tail b small split = tt
frames_bytes at (f ∷ []) tail b small (rest, begun, _, _, _) = ((begun_bytes f b rest small begun).0, tt)
frames_bytes at (f ∷ g ∷ fs) tail b small (filler, rest, begun, place, fill, more) =
    let parts = begun_bytes f b (filler ++ rest) small begun in
    (parts.0, frames_bytes (up_to_4 (at + frame_len f)) (g ∷ fs) tail rest (bytes_back filler rest parts.1) more)

module _ (is_section : SectionRelation) (body : BodyForm → Clean) where
  -- frames whose bodies have no findings, and which are lists of bytes, have a meaning
  frames_mean : ((f : FrameForm) → IsBytes f.body → CleanFrame body f → (s : SectionMeaning) × is_section f s) → (frames : List FrameForm)
      → AllByRecursion (λ (f : FrameForm). IsBytes f.body) frames → AllByRecursion (CleanFrame body) frames
      → (ss : List SectionMeaning) × Pairwise is_section frames ss
  frames_mean means [] small clean = ([], tt)
  frames_mean means (f ∷ fs) small clean =
      let one = means f small.0 clean.0 in
      let more = frames_mean means fs small.1 clean.1 in
      (one.0 ∷ more.0, (one.1, more.1))

  paired_clean : ((f : FrameForm) (s : SectionMeaning) → is_section f s → CleanFrame body f) → (frames : List FrameForm)
      (ss : List SectionMeaning) → Pairwise is_section frames ss → AllByRecursion (CleanFrame body) frames
  paired_clean clean [] ss pairs = tt
  paired_clean clean (f ∷ fs) [] pairs = absurd pairs
  paired_clean clean (f ∷ fs) (s ∷ ss) pairs = (clean f s pairs.0, paired_clean clean fs ss pairs.1)

  -- a stream with a meaning has no findings
  pub stream_clean : ((f : FrameForm) (s : SectionMeaning) → is_section f s → CleanFrame body f) → (ss : List SectionMeaning) (tail : ℕ)
      (b : List ℕ) → StreamOver is_section ss tail b → CleanStream body (length b) b
  stream_clean clean ss tail b (frames, split, pairs) =
      frames_clean body (length b) 0 frames tail b (split_read 0 frames tail b (omega arith) split) (paired_clean clean frames ss pairs)

  -- a stream without findings has a meaning
  pub stream_means : ((f : FrameForm) → IsBytes f.body → CleanFrame body f → (s : SectionMeaning) × is_section f s) → (b : List ℕ)
      → IsBytes b → CleanStream body (length b) b → (ss : List SectionMeaning) × (tail : ℕ) × StreamOver is_section ss tail b
  stream_means means b small clean =
      let split = clean_split (length b) 0 b (omega arith) (omega arith) (clean_sections body (length b) b clean) in
      let read = split_read 0 split.0 split.1 b (omega arith) split.2 in
      let made = frames_mean means split.0 (frames_bytes 0 split.0 split.1 b small split.2)
      (bodies_clean body (length b) 0 split.0 split.1 b (omega arith) read clean) in
      (made.0, split.1, (split.0, split.2, made.1))

-- ---- the form of a body

group_form : (kind : ℕ) (b : List ℕ) → kind ≡ group_kind → body_form kind b ≡ forms.Group
group_form kind b is = rw (eq-eqb kind group_kind is) refl

volume_form : (kind : ℕ) (b : List ℕ) → kind ≡ volume_kind → Opens b → body_form kind b ≡ forms.Volume
volume_form kind b is opens =
    let one : is_one_volume b ≡ true = (opens_decides b).1 opens in
    subst (λ (k : ℕ). body_form k b ≡ forms.Volume) (sym is) (ap (λ t. if t then forms.Volume else forms.Plain) one)

-- ---- bodies

-- `sections_list` undoes `sections_from`
pub list_back : (ss : List SectionMeaning) → sections_list (sections_from ss) ≡ ss
list_back [] = refl
list_back (s ∷ ss) = ap (λ l. s ∷ l) (list_back ss)

module _ (is_stream : StreamRelation) (is_volume : VolumeRelation) (stream volume : Clean) where
  -- the body of a section with a meaning has no findings
  pub body_clean : ((ss : List SectionMeaning) (tail : ℕ) (b : List ℕ) → is_stream ss tail b → stream b)
      → ((b : List ℕ) (m : Meaning) → Opens b → is_volume b m → volume b)
      → (f : FrameForm) (s : SectionMeaning) → SectionOver is_stream is_volume f s
      → CleanBody stream volume (body_form f.kind f.body) f.body
  body_clean streams volumes f (Section kind extended (Leaf b)) (_, _, (other, closed, _)) =
      go (f.kind == group_kind) refl ((f.kind == volume_kind) && is_one_volume f.body) refl ((f.kind == 0x01) || (f.kind == 0x02))
    where
      go : (g : Bool) → (f.kind == group_kind) ≡ g → (v : Bool) → ((f.kind == volume_kind) && is_one_volume f.body) ≡ v → (p : Bool)
          → CleanBody stream volume (if g then forms.Group else
          (if v then forms.Volume else (if p then forms.Packed else forms.Plain))) f.body
      go true is v one p = absurd (other (eqb-true f.kind group_kind is))
      go false is true one p =
          let parts = and_split (f.kind == volume_kind) (is_one_volume f.body) one in
          absurd (closed (eqb-true f.kind volume_kind parts.0) ((opens_decides f.body).0 parts.1))
      go false is false one true = tt
      go false is false one false = tt
  body_clean streams volumes f (Section kind extended (Group sections tail)) (_, _, (is, means)) =
      subst (λ (form : BodyForm). CleanBody stream volume form f.body) (sym (group_form f.kind f.body is))
      (streams (sections_list sections) tail f.body means)
  body_clean streams volumes f (Section kind extended (Nested m)) (_, _, (is, opens, means)) =
      subst (λ (form : BodyForm). CleanBody stream volume form f.body) (sym (volume_form f.kind f.body is opens))
      (volumes f.body m opens means)

  -- a section whose body has no findings has a meaning
  pub body_means : ((b : List ℕ) → IsBytes b → stream b → (ss : List SectionMeaning) × (tail : ℕ) × is_stream ss tail b)
      → ((b : List ℕ) → IsBytes b → volume b → (m : Meaning) × is_volume b m)
      → (f : FrameForm) → IsBytes f.body → CleanBody stream volume (body_form f.kind f.body) f.body
      → (s : SectionMeaning) × SectionOver is_stream is_volume f s
  body_means streams volumes f small =
      go (f.kind == group_kind) refl ((f.kind == volume_kind) && is_one_volume f.body) refl ((f.kind == 0x01) || (f.kind == 0x02))
    where
      leaf : f.kind ≢ group_kind → ((f.kind == volume_kind) && is_one_volume f.body) ≡ false
          → (s : SectionMeaning) × SectionOver is_stream is_volume f s
      leaf other one = (Section f.kind f.extended (Leaf f.body), (refl, refl, (other, (λ is opens. closed is opens one), refl))) where
        closed : f.kind ≡ volume_kind → Opens f.body → ((f.kind == volume_kind) && is_one_volume f.body) ≡ false → ⊥
        closed is opens one = let both : true ≡ false = sym (and_join _ _ (eq-eqb f.kind volume_kind is) ((opens_decides f.body).1 opens))
            ∙ one in cc

      go : (g : Bool) → (f.kind == group_kind) ≡ g → (v : Bool) → ((f.kind == volume_kind) && is_one_volume f.body) ≡ v → (p : Bool)
          → CleanBody stream volume (if g then forms.Group else
          (if v then forms.Volume else (if p then forms.Packed else forms.Plain))) f.body
          → (s : SectionMeaning) × SectionOver is_stream is_volume f s
      go true is v one p clean =
          let found = streams f.body small clean in (
            Section f.kind f.extended (Group (sections_from found.0) found.1),
            (
              refl,
              refl,
              (
                eqb-true f.kind group_kind is,
                subst (λ (ss : List SectionMeaning). is_stream ss found.1 f.body)
                    (sym (list_back found.0)) found.2,
              ),
            ),
          )
      go false is true one p clean =
          let parts = and_split (f.kind == volume_kind) (is_one_volume f.body) one in
          let found = volumes f.body small clean in (
            Section f.kind f.extended (Nested found.0),
            (refl, refl, (eqb-true f.kind volume_kind parts.0, (opens_decides f.body).0 parts.1, found.1)),
          )
      go false is false one p clean = leaf (λ same. up_is_not_down _ (eq-eqb f.kind group_kind same) is) one
