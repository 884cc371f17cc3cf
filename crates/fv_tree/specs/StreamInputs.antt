-- A stream of sections that is a whole input, and why an input is not such a stream (PI specification, volume 3, section
-- 3.2.4).
use Rattle.std.specs.Prelude.{◌≡◌, ◌≢◌, ◌⊎◌, ◌<◌, ◌≤◌, ℕ, List, [], length}
use Rattle.fv_base.specs.Words.{First, Any, IsBytes, outer_fault, depth_limit, volume_limit}
use Rattle.fv_base.specs.declared.fault.Fault.{Fault}
use Rattle.fv_base.specs.declared.fault.FaultKind.TheVariants as kinds
use Rattle.fv_section.specs.Words.{FrameForm, Splits}
use Rattle.fv_tree.specs.Denotes.{Stream}
use Rattle.fv_tree.specs.FirstFault.{InStream, outermost}
use Rattle.fv_tree.specs.Meaning.{SectionMeaning}

-- the bytes, at most `volume_limit` of them and each below 256, are accepted as a stream of these sections, with `tail`
-- bytes after the last; groups and opened volumes nest at most `depth_limit` deep
pub record AcceptedStream (sections : List SectionMeaning) (tail : ℕ) (b : List ℕ) : Type 0 where
  pub bytes : IsBytes b
  pub short : length b ≤ volume_limit
  pub stream : Stream depth_limit sections tail b

-- the bytes are frames and a tail, and there is at least one frame
abbrev pub HasFrame : List ℕ → Type 0
HasFrame b = (frames : List FrameForm) × (tail : ℕ) × Splits frames tail b × (frames ≢ [])

-- there are more than `volume_limit` bytes, and the fault is Length at this limit
abbrev pub IsLongStream : List ℕ → Fault → Type 0
IsLongStream b e = (volume_limit < length b) × (e ≡ outer_fault kinds.Length volume_limit)

-- e is the first fault of an input that should be a stream of sections: there are too many bytes, or they have a first
-- fault as a stream
abbrev pub IsFirstOfStream : List ℕ → Fault → Type 0
IsFirstOfStream b e = IsLongStream b e ⊎ ((length b ≤ volume_limit) × InStream First depth_limit e b outermost)

-- the condition of e holds at e's place in an input that should be a stream of sections, and the parts through which
-- this place is found have no fault of their own
abbrev pub FaultHoldsInStream : List ℕ → Fault → Type 0
FaultHoldsInStream b e = IsLongStream b e ⊎ InStream Any depth_limit e b outermost

-- the input is not a stream of sections, and this is its first fault
pub record NotStream (input : List ℕ) (f : Fault) : Type 0 where
  pub none : (sections : List SectionMeaning) (tail : ℕ) → AcceptedStream sections tail input → ⊥
  pub first : IsFirstOfStream input f
