-- The loop that reads a stream, frame by frame, reads all of its sections or finds its first fault. The steps:
-- 1. At first all frames are left, and no volume is added (`walk_begun`).
-- 2. The next frame lies within the stream, and some bytes contain it (`walk_ready`). Either it is read (`walk_more`),
--    or its fault is the first fault of the stream (`walk_first`).
-- 3. If no frame is left, the stream is read (`walk_found`).
use Rattle.std.proofs.Common.{arith, ◌≡◌, ℕ, ◌+◌, ◌≤◌, [], ◌∷◌, ◌++◌, List, length, refl, sym, ap, ◌∙◌, inr, append_assoc, append-nil, length-append}
use Rattle.fv_base.proofs.Laws.{First, volume_limit, IsBytes, in_middle, common_steps}
use Rattle.fv_base.specs.declared.fault.Fault.{Fault}
use Rattle.fv_base.specs.declared.fault.Place.{Place}
use Rattle.fv_section.specs.Words.{FrameForm, Splits, frame_len}
use Rattle.fv_section.proofs.Laws.{split_stands, stands_within}
use Rattle.fv_tree.specs.Words.{HasFrame, Pairwise, MeansSection, IsStoredFrame, InSection, InStream, Meaning, SectionMeaning, section_by}
use Rattle.fv_tree.specs.inner.SectionReads.{EachYields, SectionRead, StreamRead}
use Rattle.fv_tree.proofs.ListPairs.{pairs_push}
use Rattle.fv_tree.proofs.SectionReadLaws.{each_push, stream_read}

module _ (n : ℕ) (b : List ℕ) (tail : ℕ) where
  -- the frames `left` of the stream b are left: the frames before them have meanings, and the volumes in these frames
  -- were added to the list `old`, which became `now`
  pub record StreamWalked (left : List FrameForm) (old now : List Meaning) : Type 0 where
    pub frames : List FrameForm
    pub sections : List SectionMeaning
    pub split : Splits (frames ++ left) tail b
    pub means : Pairwise (MeansSection n) frames sections
    pub added : List Meaning
    pub joined : now ≡ old ++ added
    pub yields : EachYields (section_by n) frames added sections

  pub walk_begun : (fs : List FrameForm) (old : List Meaning) → Splits fs tail b → StreamWalked fs old old
  walk_begun fs old split = record {
    frames = [];
    sections = [];
    split = split;
    means = tt;
    added = [];
    joined = sym (append-nil old);
    yields = λ later. refl;
  }

  -- f is the first frame that is left
  module _ (left more : List FrameForm) (f : FrameForm) (old now : List Meaning) (w : StreamWalked left old now) (e : left ≡ f ∷ more) where
    whole : Splits (w.frames ++ f ∷ more) tail b
    whole = rw e at w.split

    -- f meets the conditions of the reader of a section
    pub walk_ready : IsBytes b → length b ≤ volume_limit → (f.offset + frame_len f ≤ length b) × IsStoredFrame f
    walk_ready small short = grind (arith, common_steps, in_middle, split_stands, whole, stands_within) steps 150000

    -- if f is read, the walk goes on with the frames after it
    pub walk_more : (new : List Meaning) → SectionRead n f now new → StreamWalked more old new
    walk_more new read = record {
      frames = w.frames ++ f ∷ [];
      sections = w.sections ++ read.section ∷ [];
      split = rw append_assoc whole;
      means = pairs_push (MeansSection n) w.frames w.sections f read.section w.means read.means;
      added = w.added ++ read.added;
      joined = read.joined ∙ ap (λ l. l ++ read.added) w.joined ∙ append_assoc old w.added read.added;
      yields = each_push (section_by n) w.frames f w.added read.added w.sections read.section w.yields read.yields;
    }

    -- if f is rejected, its fault is the first fault of the stream
    pub walk_first : (x : Fault) (place : Place) → InSection First n x f place → InStream First n x b place
    walk_first x place first = inr (w.frames ++ f ∷ more, tail, whole, (w.frames, f, more, refl, (w.sections, w.means), first))

    -- the stream has a frame
    pub walk_some : HasFrame b
    walk_some = (w.frames ++ f ∷ more, tail, whole, λ none. omega (arith, ap length none, length-append w.frames (f ∷ more)))

  -- if no frame is left, the stream is read
  pub walk_found : (left : List FrameForm) (old now : List Meaning) → IsBytes b → StreamWalked left old now → left ≡ [] → StreamRead n b old now
  walk_found left old now small w e =
      stream_read n b tail w.frames w.sections old now w.added small (rw (e, append-nil w.frames) at w.split) w.means w.joined w.yields
