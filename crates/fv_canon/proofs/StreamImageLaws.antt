-- A stream that is written as in the canonical image is read again as the same sections. The steps:
-- 1. The type of a section that was read is a byte (`begun_kind`), so a written frame is a list of bytes if its body is
--    (`bytes_begun`).
-- 2. The statements about the parts inside: sections, streams and volumes are read again, and each volume inside is the
--    meaning of some bytes (`SectionsAgain`, `StreamsAgain`, `VolumesAgain`). A section is read again with the same
--    type and form.
-- 3. A written frame is read again, and is as long as the frame that was read (`frame_again`). So the frames of a
--    stream are read again (`frames_again`).
-- 4. So a stream is read again if its sections are (`stream_again`), and a section is read again if the parts inside
--    are (`section_again`).
use Rattle.std.proofs.Common.{◌≡◌, ◌≤◌, ◌<◌, ◌+◌, ◌-◌, ℕ, [], ◌∷◌, ◌++◌, suc, Bool, List, length, replicate, refl, sym, ◌∙◌, subst, ap, arith}
use Rattle.fv_base.proofs.Laws.{common_steps, AllByRecursion, IsBytes, bytes_append, bytes_back, bytes_cons, bytes_front, bytes_le_bytes}
use Rattle.fv_base.proofs.Laws.{bytes_replicate, none_at}
use Rattle.fv_section.specs.Words.{FrameForm, section_header_len, frame_len, BeginsFrame, SplitsFrom, Splits, up_to_4, FitsForm, InPlace}
use Rattle.fv_section.specs.Words.{section_head_of, stream_of}
use Rattle.fv_section.proofs.Laws.{begun_bytes, fits, streams_are_read}
use Rattle.fv_tree.specs.Words.{Meaning, SectionMeanings, NoSections, MoreSections, SectionMeaning, Section, Leaf, Group, Nested, sections_list}
use Rattle.fv_tree.specs.Words.{SectionRelation, StreamRelation, VolumeRelation, Pairwise, SectionOver, MeansSection, Stream, Opens, Denotes, Inside}
use Rattle.fv_tree.specs.Words.{deeper, volumes_in, volumes_in_sections, volumes_in_section}
use Rattle.fv_tree.proofs.Laws.{section_long}
use Rattle.fv_canon.specs.Words.{IsImage, AreFrames, IsFrame, IsBodyImage}
use Rattle.fv_canon.proofs.VolumeListLaws.{each_joined}

-- the type of a section that was read is a byte
begun_kind : (f : FrameForm) (b rest : List ℕ) → IsBytes b → BeginsFrame f b rest → f.kind < 256
begun_kind f b rest small is = subst (λ (n : ℕ). n < 256) is.is_header.kind_is (bytes_front is.head (f.body ++ rest) (subst IsBytes is.text small) 3)

bytes_section_head : (kind : ℕ) (extended : Bool) (n : ℕ) → kind < 256 → IsBytes (section_head_of kind extended n)
bytes_section_head kind extended n l = grind (arith, common_steps, bytes_append, bytes_le_bytes, bytes_cons, none_at) steps 400000

-- if a frame's body and the bytes after it are lists of bytes, the written frame and these bytes are a list of bytes
bytes_begun : (g : FrameForm) → g.kind < 256 → IsBytes g.body → (rest : List ℕ) → IsBytes rest
    → IsBytes (section_head_of g.kind g.extended (length g.body) ++ (g.body ++ rest))
bytes_begun g kind body rest behind = grind (arith, common_steps, bytes_append, bytes_section_head) steps 400000

-- ---- the statements about the parts inside

-- the volume is the meaning of some bytes, at a depth below n
abbrev pub MeantBelow : ℕ → Inside → Type 0
MeantBelow n v = (k : ℕ) × (k < n) × (b : List ℕ) × IsBytes b × Denotes k b v.volume

-- if each volume is the meaning of some bytes, the same is true one level deeper
meant_deeper : (n : ℕ) (vs : List Inside) → AllByRecursion (MeantBelow n) vs → AllByRecursion (MeantBelow (suc n)) (deeper vs)
meant_deeper n [] all = tt
meant_deeper n (v ∷ vs) ((k, less, b, small, d), all) = ((k, omega (arith, less), b, small, d), meant_deeper n vs all)

-- the frame that is written for a section is read again as this section, with the same type and form
abbrev pub SectionsAgain : ℕ → SectionRelation → Type 0
SectionsAgain n is_section = (s : SectionMeaning) (f g : FrameForm) → IsBytes f.body → is_section f s → IsFrame s g
    → is_section g s × IsBytes g.body × (g.kind ≡ f.kind) × (g.extended ≡ f.extended) × AllByRecursion (MeantBelow n) (volumes_in_section s)

-- the bytes that are written for a stream are read again as the same sections
abbrev pub StreamsAgain : ℕ → StreamRelation → Type 0
StreamsAgain n is_stream = (ss : SectionMeanings) (tail : ℕ) (b o : List ℕ) → IsBytes b → is_stream (sections_list ss) tail b
    → IsBodyImage (Group ss tail) o
    → is_stream (sections_list ss) tail o × IsBytes o × AllByRecursion (MeantBelow n) (volumes_in_sections ss)

-- the image of a volume is read again as the same volume
abbrev pub VolumesAgain : ℕ → VolumeRelation → Type 0
VolumesAgain n is_volume = (m : Meaning) (b o : List ℕ) → IsBytes b → is_volume b m → IsImage m o
    → is_volume o m × IsBytes o × Opens o × AllByRecursion (MeantBelow n) (volumes_in m)

-- ---- frame by frame

-- the frame g that is written for the frame f, which was read as the section s
pub record FrameAgain (n : ℕ) (s : SectionMeaning) (f g : FrameForm) : Type 0 where
  pub is : MeansSection n g s
  pub size : frame_len g ≡ frame_len f
  pub fits : FitsForm g.extended (length g.body)
  pub bytes : (rest : List ℕ) → IsBytes rest → IsBytes (section_head_of g.kind g.extended (length g.body) ++ (g.body ++ rest))
  pub meant : AllByRecursion (MeantBelow (suc n)) (volumes_in_section s)

frame_again : (n : ℕ) → SectionsAgain (suc n) (MeansSection n) → (s : SectionMeaning) (f g : FrameForm) (b rest : List ℕ) → IsBytes b
    → BeginsFrame f b rest → MeansSection n f s → IsFrame s g → FrameAgain n s f g
frame_again n again s f g b rest small begun is image =
    let a = again s f g (begun_bytes f b rest small begun).0 is image in
    let size : frame_len g ≡ frame_len f = sym (section_long n g s a.0) ∙ section_long n f s is in
    let long : length f.body ≡ length g.body = omega (arith, size, ap section_header_len a.3) in
    record {
      is = a.0;
      size = size;
      fits = subst (λ (x : Bool). FitsForm x (length g.body)) (sym a.3) (subst (FitsForm f.extended) long (fits f b rest small begun));
      bytes = bytes_begun g (subst (λ (k : ℕ). k < 256) (sym a.2) (begun_kind f b rest small begun)) a.1;
      meant = a.4;
    }

-- the frames gs that are written for the sections ss of a stream
record FramesAgain (n at : ℕ) (ss : SectionMeanings) (gs : List FrameForm) (tail : ℕ) : Type 0 where
  placed : InPlace at gs tail
  pairs : Pairwise (MeansSection n) gs (sections_list ss)
  bytes : IsBytes (stream_of gs tail)
  meant : AllByRecursion (MeantBelow (suc n)) (volumes_in_sections ss)

frames_again : (n : ℕ) → SectionsAgain (suc n) (MeansSection n) → (at : ℕ) (ss : SectionMeanings) (fs gs : List FrameForm)
    (tail : ℕ) (b : List ℕ) → IsBytes b → SplitsFrom at fs tail b → Pairwise (MeansSection n) fs (sections_list ss) → AreFrames at ss gs → FramesAgain n at ss gs tail
frames_again n again at NoSections [] [] tail b small is p q = record { placed = is.1; pairs = tt; bytes = none_at; meant = tt }
frames_again n again at (MoreSections s NoSections) (f ∷ []) (g ∷ []) tail b small (rest, begun, offset, count, most) p q =
    let a = frame_again n again s f g b rest small begun p.0 q.1 in
    record {
      placed = (q.0, a.fits, subst (λ (k : ℕ). at + k + tail ≤ up_to_4 (at + k)) (sym a.size) most);
      pairs = (a.is, tt);
      bytes = a.bytes (replicate tail 0) (bytes_replicate tail 0 (omega arith));
      meant = each_joined (MeantBelow (suc n)) (volumes_in_section s) [] a.meant tt;
    }
frames_again n again at (MoreSections s (MoreSections t ss)) (f ∷ h ∷ fs) (g ∷ k ∷ gs) tail b small
    (filler, rest, begun, offset, count, more) p q =
    let a = frame_again n again s f g b (filler ++ rest) small begun p.0 q.1 in
    let behind = bytes_back filler rest (begun_bytes f b (filler ++ rest) small begun).1 in
    let fill : List ℕ = replicate (up_to_4 (frame_len g) - frame_len g) 0 in
    let others : List ℕ = stream_of (k ∷ gs) tail in
    let r = frames_again n again (up_to_4 (at + frame_len g)) (MoreSections t ss) (h ∷ fs) (k ∷ gs) tail rest behind
    (subst (λ (i : ℕ). SplitsFrom (up_to_4 (at + i)) (h ∷ fs) tail rest) (sym a.size) more) p.1 q.2 in
    record {
      placed = (q.0, a.fits, r.placed);
      pairs = (a.is, r.pairs);
      bytes = a.bytes (fill ++ others)
          (bytes_append fill others (bytes_replicate (up_to_4 (frame_len g) - frame_len g) 0 (omega arith)) r.bytes);
      meant = each_joined (MeantBelow (suc n)) (volumes_in_section s) (volumes_in_sections (MoreSections t ss)) a.meant r.meant;
    }
frames_again n again at ss fs gs tail b small is p q = absurd (grind arith)

-- a stream is read again if its sections are
pub stream_again : (n : ℕ) → SectionsAgain (suc n) (MeansSection n) → StreamsAgain (suc n) (Stream n)
stream_again n again ss tail b o small (fs, split, pairs) (gs, frames, text) =
    let r = frames_again n again 0 ss fs gs tail b small split pairs frames in
    ((gs, subst (Splits gs tail) (sym text) (streams_are_read 0 gs tail refl r.placed), r.pairs), subst IsBytes (sym text) r.bytes, r.meant)

-- a section is read again if the streams and volumes inside are
pub section_again : (n : ℕ) (is_stream : StreamRelation) (is_volume : VolumeRelation) → StreamsAgain n is_stream
    → VolumesAgain n is_volume → SectionsAgain (suc n) (SectionOver is_stream is_volume)
section_again n is_stream is_volume streams volumes (Section kind extended (Leaf body)) f g small (k, e, (not_group, not_volume, same)) (gk, ge, image) =
    grind (arith, common_steps)
section_again n is_stream is_volume streams volumes (Section kind extended (Group sections tail)) f g small
    (k, e, (is_group, is)) (gk, ge, image) =
    let a = streams sections tail f.body g.body small is image in
    ((sym gk, sym ge, ((gk ∙ k) ∙ is_group, a.0)), a.1, gk ∙ k, ge ∙ e, meant_deeper n (volumes_in_sections sections) a.2)
section_again n is_stream is_volume streams volumes (Section kind extended (Nested volume)) f g small
    (k, e, (is_there, opens, is)) (gk, ge, image) =
    let a = volumes volume f.body g.body small is image in
    ((sym gk, sym ge, ((gk ∙ k) ∙ is_there, a.2, a.0)), a.1, gk ∙ k, ge ∙ e, meant_deeper n (volumes_in volume) a.3)
