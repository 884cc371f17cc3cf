-- The laws of a stream of sections that is a whole input: it was read (`stream_made`, `view_kept`), or it is rejected
-- (`too_long`, `stream_rejected`).
use Rattle.std.proofs.Common.{◌≡◌, ◌≢◌, ◌<◌, ◌≤◌, ◌⊎◌, ℕ, List, [], length, arith, inl, inr, append-nil, sym, true, ◌∙◌}
use Rattle.fv_base.proofs.Laws.{First, or_more, want_known, out_of_memory, outer_fault, depth_limit, volume_limit}
use Rattle.fv_base.specs.declared.fault.Fault.{Fault}
use Rattle.fv_base.specs.declared.fault.FaultKind.TheVariants as kinds
use Rattle.fv_tree.specs.Words.{AcceptedStream, AreKept, FaultHoldsInStream, InStream, IsFirstOfStream, Meaning, NotStream, SectionMeaning, each_by, frames_of}
use Rattle.fv_tree.specs.Words.{outermost, section_by, tail_of}
use Rattle.fv_tree.specs.inner.SectionReads.{StreamRead}
use Rattle.fv_tree.proofs.FaultKindLaws.{is_reading, stream_reading}
use Rattle.fv_tree.proofs.FaultLaws.{stream_stands}
use Rattle.fv_tree.proofs.FirstLaws.{stream_first_once}
use Rattle.fv_tree.proofs.MeaningLaws.{one_stream}
use Rattle.fv_tree.proofs.RefusalLaws.{stream_refuses}
use Rattle.fv_tree.proofs.WalkedSectionLaws.{stream_kept}
use Rattle.fv_tree.proofs.WholeInputLaws.{IsOfInput, input_kind}

-- ---- a stream that was read

-- a stream that was read is accepted, with the sections that are made from its frames and the volumes in them
pub stream_made : (b : List ℕ) (old new : List Meaning) → old ≡ [] → length b ≤ volume_limit → StreamRead depth_limit b old new
    → AcceptedStream (each_by (section_by depth_limit) (frames_of b) new).0 (tail_of b) b
stream_made b old new none short read =
    let made : each_by (section_by depth_limit) (frames_of b) new ≡ (read.sections, []) = cc (read.yields [], append-nil read.added, read.joined, none) in
    record { bytes = read.small; short = short; stream = rw made read.means }

-- an iterator over the sections may walk over the bytes of an accepted stream
pub view_kept : (b : List ℕ) (vs : List Meaning)
    → AcceptedStream (each_by (section_by depth_limit) (frames_of b) vs).0 (tail_of b) b → AreKept depth_limit b vs
view_kept b vs is = stream_kept depth_limit b vs (tail_of b) (omega arith) is.bytes is.short is.stream

-- bytes are a stream of at most one list of sections
pub stream_only : (ss : List SectionMeaning) (t : ℕ) (b : List ℕ) → AcceptedStream ss t b → (ts : List SectionMeaning) (u : ℕ)
    → AcceptedStream ts u b → (ts ≡ ss) × (u ≡ t)
stream_only ss t b is ts u other = one_stream depth_limit depth_limit ts ss u t b other.stream is.stream

-- ---- an input that is not a stream

-- an input that is too long is not a stream
pub too_long : (b : List ℕ) (f : Fault) → volume_limit < length b → f ≡ outer_fault kinds.Length volume_limit → NotStream b f
too_long b f long is = record { none = λ ss t stream. omega (arith, long, stream.short); first = inl (long, is) }

-- an input with a first fault is not a stream
pub not_stream : (b : List ℕ) (f : Fault) → length b ≤ volume_limit → InStream First depth_limit f b outermost → NotStream b f
not_stream b f short first = record {
  none = λ ss t stream. stream_refuses First depth_limit f b outermost ss t first stream.stream;
  first = inr (short, first);
}

-- so an input for which a fault is returned is not a stream, unless memory ran out
pub stream_rejected : (b : List ℕ) (f : Fault) → length b ≤ volume_limit → (f ≢ out_of_memory → InStream First depth_limit f b outermost)
    → (f ≡ out_of_memory) ⊎ NotStream b f
stream_rejected b f short first = or_more (want_known f) (λ other. not_stream b f short (first other))

-- an input that should be a stream has at most one first fault
pub first_of_stream : (b : List ℕ) (f g : Fault) → IsFirstOfStream b f → IsFirstOfStream b g → f ≡ g
first_of_stream b f g (inl (long, is)) (inl (_, is')) = is ∙ sym is'
first_of_stream b f g (inl (long, is)) (inr (short, first)) = absurd (omega (arith, long, short))
first_of_stream b f g (inr (short, first)) (inl (long, is)) = absurd (omega (arith, long, short))
first_of_stream b f g (inr (_, first)) (inr (_, first')) = stream_first_once depth_limit f g b outermost first first'

-- the condition of a first fault holds in the bytes
pub stream_holds : (b : List ℕ) (f : Fault) → (f ≢ out_of_memory → InStream First depth_limit f b outermost) → f ≢ out_of_memory
    → FaultHoldsInStream b f
stream_holds b f first other = inr (stream_stands b f (first other))

-- a fault of a stream is neither ReadFault nor WriteFault
pub stream_kinds : (b : List ℕ) (f : Fault) → (f ≢ out_of_memory → InStream First depth_limit f b outermost) → IsOfInput f.kind
stream_kinds b f first = input_kind f (λ other.
    let known : is_reading f.kind ≡ true = stream_reading b f (stream_stands b f (first other)) in
    (λ read. cc known, λ write. cc known))
