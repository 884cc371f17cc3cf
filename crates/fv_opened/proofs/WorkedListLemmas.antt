-- The streams of the worked lists: no bytes, one section, and bytes that are not sections.
use Rattle.std.proofs.Common.{◌≢◌, ◌<◌, ◌+◌, ℕ, List, [], ◌∷◌, ◌++◌, length, false, inl, inr, refl, arith, ap, append-nil, None}
use Rattle.fv_base.proofs.Laws.{common_steps, bytes_cons, outer_fault}
use Rattle.fv_base.specs.Words.{IsBytes, check}
use Rattle.fv_base.specs.declared.fault.FaultKind.TheVariants as kinds
use Rattle.fv_section.specs.Words.{FrameForm, Splits, IsFirstFrameFault}
use Rattle.fv_section.proofs.Laws.{length_begun, size_least}
use Rattle.fv_open.specs.Words.{empty_section, short_section, three_bytes}
use Rattle.fv_tree.specs.Words.{Section, Leaf, AcceptedStream, NotStream}
use Rattle.fv_lines.specs.Words.{LeafText, NodeText, node_text}
use Rattle.fv_rows.specs.Words.{SectionNode}
use Rattle.fv_opened.specs.Words.{stored_section}

-- no bytes are bytes
no_bytes : IsBytes []
no_bytes i = grind (arith, common_steps)

pub none_accepted : AcceptedStream [] 0 []
none_accepted = record { bytes = no_bytes; short = omega arith; stream = ([], (refl, refl), tt) }

-- one section with a short header, which is neither a group nor a section of type 17
pub one_accepted : (kind : ℕ) (body : List ℕ) → kind < 256 → kind ≢ 3 → kind ≢ 23 → IsBytes body → length body < 200
    → AcceptedStream (Section kind false (Leaf body) ∷ []) 0 (short_section kind body)
one_accepted kind body low group volume bytes few = record {
  bytes = bytes_cons (4 + length body) (0 ∷ 0 ∷ kind ∷ body) (omega (arith, few))
      (bytes_cons 0 (0 ∷ kind ∷ body) (omega arith) (bytes_cons 0 (kind ∷ body) (omega arith) (bytes_cons kind body low bytes)));
  short = omega (arith, few);
  stream = (
    record { offset = 0; kind = kind; extended = false; body = body } ∷ [],
    (
      [],
      record {
        head = (4 + length body) ∷ 0 ∷ 0 ∷ kind ∷ [];
        is_header = record { header_length = refl; kind_is = refl; states = (omega arith, λ e. omega (arith, e, few)) };
        text = rw append-nil refl;
      },
      refl,
      refl,
      omega arith,
    ),
    ((refl, refl, (group, λ e _. absurd (volume e), refl)), tt),
  );
}

-- three bytes are not sections
three_cut : IsFirstFrameFault three_bytes (outer_fault kinds.SectionTail 0)
three_cut = record {
  frames = [];
  tail = 0;
  at = 0;
  split = (refl, refl);
  multiple = refl;
  inside = omega arith;
  fails = ([], check false kinds.SectionTail 0, _, refl, tt, refl, refl);
}

no_three : (fs : List FrameForm) (tail : ℕ) → Splits fs tail three_bytes → ⊥
no_three [] tail (e, _) = omega (arith, ap length e)
no_three (f ∷ []) tail (rest, begun, _, _, _) = omega (arith, length_begun f three_bytes rest begun, size_least f)
no_three (f ∷ g ∷ fs) tail (filler, rest, begun, _, _, _) =
    omega (arith, length_begun f three_bytes (filler ++ rest) begun, size_least f)

pub three_faulty : NotStream three_bytes (outer_fault kinds.SectionTail 0)
three_faulty = record {
  none = λ ss tail accepted. no_three (accepted.stream).0 tail (accepted.stream).1;
  first = inr (omega arith, inl (outer_fault kinds.SectionTail 0, three_cut, refl));
}

-- the two streams of the worked lists
pub one_empty : AcceptedStream (Section 25 false (Leaf []) ∷ []) 0 empty_section
one_empty = one_accepted 25 [] (omega arith) (λ e. omega (arith, e)) (λ e. omega (arith, e)) no_bytes (omega arith)

pub inner_accepted : AcceptedStream (Section 1 false (Leaf (9 ∷ 0 ∷ 0 ∷ 0 ∷ 0 ∷ empty_section)) ∷ []) 0 stored_section
inner_accepted =
    one_accepted 1 (9 ∷ 0 ∷ 0 ∷ 0 ∷ 0 ∷ empty_section) (omega arith) (λ e. omega (arith, e)) (λ e. omega (arith, e))
    (bytes_cons 9 (0 ∷ 0 ∷ 0 ∷ 0 ∷ empty_section) (omega arith) (bytes_cons 0 (0 ∷ 0 ∷ 0 ∷ empty_section) (omega arith)
    (bytes_cons 0 (0 ∷ 0 ∷ empty_section) (omega arith) (bytes_cons 0 (0 ∷ empty_section) (omega arith)
    (bytes_cons 0 empty_section (omega arith) one_empty.bytes))))) (omega arith)

-- the line of an empty section of type 19
pub leaf_line : (depth number : ℕ) → NodeText depth number (SectionNode (Section 25 false (Leaf []))) None
    (node_text depth number (SectionNode (Section 25 false (Leaf []))) [] None)
leaf_line depth number = ([], shows_none, refl) where
  shows_none : LeafText 25 [] []
  shows_none = record {
    version = λ e. absurd (omega (arith, e));
    interface = λ e. absurd (omega (arith, e));
    subtype = λ e. absurd (omega (arith, e));
    other = λ _ _ _. refl;
  }
