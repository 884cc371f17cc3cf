-- The parts of an image, and how far a walk over an image has come. The invariants of the walk use these definitions.
use Rattle.std.proofs.Common.{◌≡◌, ℕ, ◌-◌, [], ◌++◌, List, length, drop, replicate}
use Rattle.fv_base.proofs.Laws.{bytes_eq, alignment_of, bytes_of}
use Rattle.fv_section.specs.Words.{FrameForm, frame_len, up_to_4, section_head_of}
use Rattle.fv_tree.specs.Words.{SectionMeanings, NoSections, MoreSections, top_name, Inside, volumes_in_section}
use Rattle.fv_placement.specs.declared.first_placement.PlacementItem.{PlacementItem}
use Rattle.fv_canon.specs.Words.{BeginsWithStarts, StoredFile, head_len_for, stored_len}
use Rattle.fv_canon.specs.inner.ImageOf.{frame_of, starts_in}

-- the facts about a file that the layout depends on
abbrev pub stored_item : StoredFile → PlacementItem
stored_item f = record {
  header = head_len_for (length f.payload);
  size = stored_len f;
  alignment = alignment_of f.attributes;
  top = bytes_eq (bytes_of f.name) top_name;
}

-- the sections of a stream and the zero bytes between them; `gap` zero bytes come before the first section
abbrev pub sections_bytes : ℕ → SectionMeanings → List ℕ → List ℕ
sections_bytes gap NoSections starts = []
sections_bytes gap (MoreSections s ss) starts =
    let f : FrameForm = frame_of 0 s starts in
    (replicate gap 0 ++ (section_head_of f.kind f.extended (length f.body) ++ f.body))
    ++ sections_bytes (up_to_4 (frame_len f) - frame_len f) ss (drop (starts_in (volumes_in_section s)) starts)

-- the starts that are left begin with the starts of the files of these volumes, and `last` are the starts after them
abbrev pub ComesTo : List Inside → List ℕ → List ℕ → Type 0
ComesTo vs starts last = record { laid : BeginsWithStarts vs starts; left : drop (starts_in vs) starts ≡ last }

-- the first bytes of the whole were taken, and `rest` is left
pub record TakesFront {S : Type 0} (takes : S → List ℕ → S → Type 0) (s t : S) (whole rest : List ℕ) : Type 0 where
  pub front : List ℕ
  pub taken : takes s front t
  pub whole_is : front ++ rest ≡ whole
