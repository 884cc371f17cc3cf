-- The promises of the readers (`SectionRead`, `StreamRead`, `ContentRead`) hold. The steps:
-- 1. If sections are made from some frames and exactly the volumes that were added for them, and the same is true of
--    the next frame, the same is true of all these frames and volumes together (`each_push`).
-- 2. A section is read as its shape says: a leaf adds no volume (`leaf_read`), a group adds the volumes in its body
--    (`group_read`), and an opened volume adds itself (`volume_read`).
-- 3. A stream is read if all of its frames are read (`stream_read`). The data of a file are plain bytes (`plain_read`),
--    or a stream that is read (`sectioned_read`).
use Rattle.std.proofs.lemmas.Grind.{common_steps}
use Rattle.std.proofs.Common.{arith, ◌≡◌, ℕ, ◌+◌, List, [], ◌∷◌, ◌++◌, true, false, map, refl, sym, ap}
use Rattle.std.proofs.lemmas.List.{append-nil}
use Rattle.fv_base.specs.Words.{IsBytes}
use Rattle.fv_section.specs.Words.{FrameForm, Splits}
use Rattle.fv_tree.specs.Words.{Pairwise, MeansSection, Denotes, holds_sections, Meaning, SectionMeaning, Section, Leaf, Group}
use Rattle.fv_tree.specs.Words.{Nested, sections_from, shape_of, Step, each_by, section_by, frames_of, tail_of}
use Rattle.fv_tree.specs.inner.SectionReads.{Yields, EachYields, SectionRead, StreamRead, ContentRead}
use Rattle.fv_tree.specs.declared.shape.Shape.TheVariants as shapes
use Rattle.fv_tree.proofs.SectionShapeLaws.{leaf_shape, group_shape, volume_shape, leaf_is, group_found, nested_found, stream_reads, suc_is}
use Rattle.fv_tree.proofs.StreamFrameLaws.{split_is, unplaced}
use Rattle.fv_tree.proofs.WalkedSectionLaws.{by_unplaced, section_is}

-- ---- frames one after another

each_append : (step : Step) (fs gs : List FrameForm) (vs : List Meaning) → each_by step (fs ++ gs) vs
    ≡ ((each_by step fs vs).0 ++ (each_by step gs (each_by step fs vs).1).0, (each_by step gs (each_by step fs vs).1).1)
each_append step [] gs vs = refl
each_append step (f ∷ fs) gs vs = ap (λ (r : List SectionMeaning × List Meaning). ((step f vs).0 ∷ r.0, r.1)) (each_append step fs gs (step f vs).1)

pub each_push : (step : Step) (fs : List FrameForm) (f : FrameForm) (xs ys : List Meaning) (ss : List SectionMeaning) (s : SectionMeaning)
    → EachYields step fs xs ss → Yields step f ys s → EachYields step (fs ++ f ∷ []) (xs ++ ys) (ss ++ s ∷ [])
each_push step fs f xs ys ss s each one = grind (arith, common_steps, each_append) steps 150000

-- ---- a section

pub leaf_read : (n : ℕ) (f : FrameForm) (old : List Meaning) → shape_of f ≡ shapes.Leaf → SectionRead n f old old
leaf_read n f old is = record {
  section = Section f.kind f.extended (Leaf f.body);
  means = leaf_is n f (leaf_shape f is);
  added = [];
  joined = sym (append-nil old);
  yields = λ later. section_is n f later shapes.Leaf is;
}

pub group_read : (n k : ℕ) (f : FrameForm) (old new : List Meaning) → n ≡ k + 1 → shape_of f ≡ shapes.Group → StreamRead k f.body old new
    → SectionRead n f old new
group_read n k f old new e is read = record {
  section = Section f.kind f.extended (Group (sections_from read.sections) (tail_of f.body));
  means = group_found n k f read.sections (tail_of f.body) e (group_shape f is) read.means;
  added = read.added;
  joined = read.joined;
  yields = λ later. rw (← suc_is n k e, is, read.yields later);
}

pub volume_read : (n k : ℕ) (f : FrameForm) (old new : List Meaning) (v : Meaning) → n ≡ k + 1 → shape_of f ≡ shapes.Volume
    → Denotes k f.body v → new ≡ old ++ v ∷ [] → SectionRead n f old new
volume_read n k f old new v e is means joined = record {
  section = Section f.kind f.extended (Nested v);
  means = nested_found n k f v e (volume_shape f is) means;
  added = v ∷ [];
  joined = joined;
  yields = λ later. section_is n f (v ∷ later) shapes.Volume is;
}

-- ---- a stream

each_unplaced : (n : ℕ) (fs : List FrameForm) (vs : List Meaning) → each_by (section_by n) (map unplaced fs) vs ≡ each_by (section_by n) fs vs
each_unplaced n [] vs = refl
each_unplaced n (f ∷ fs) vs = rw (by_unplaced n f vs, each_unplaced n fs (section_by n f vs).1)

pub stream_read : (n : ℕ) (b : List ℕ) (tail : ℕ) (fs : List FrameForm) (ss : List SectionMeaning) (old new added : List Meaning)
    → IsBytes b → Splits fs tail b → Pairwise (MeansSection n) fs ss → new ≡ old ++ added → EachYields (section_by n) fs added ss
    → StreamRead n b old new
stream_read n b tail fs ss old new added small split pairs joined yields = grind (arith, common_steps, split_is, each_unplaced) steps 150000

-- ---- the data of a file

pub plain_read : (n kind : ℕ) (b : List ℕ) → holds_sections kind ≡ false → ContentRead n kind b []
plain_read n kind b is = grind (arith, common_steps) steps 150000

pub sectioned_read : (n kind : ℕ) (b : List ℕ) (new : List Meaning) → holds_sections kind ≡ true → StreamRead n b [] new → ContentRead n kind b new
sectioned_read n kind b new is read =
    let made : each_by (section_by n) (frames_of b) new ≡ (read.sections, []) = cc (read.yields [], append-nil read.added, read.joined) in
    grind (arith, common_steps, stream_reads n kind b read.sections (tail_of b) is read.means)
