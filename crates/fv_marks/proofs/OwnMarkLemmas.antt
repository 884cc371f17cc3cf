-- The walk over the cells of a volume takes the marks of its fixed files away, one after another. The steps:
-- 1. Just before a mark is taken away, the first fault of the body is that the file with this mark is fixed, so the
--    body is still as `Unmarks` says (`marked`). Without the mark, the next cell is not fixed (`next_other`).
-- 2. The walk passes a cell (`passed`), or ends (`ended`).
-- 3. The bytes around the volume are the same (`lost_own`).
use Rattle.std.proofs.Common.{◌≡◌, ◌≤◌, ℕ, ◌+◌, ◌-◌, ◌%◌, [], ◌∷◌, ◌++◌, ◌≢◌}
use Rattle.fv_base.proofs.Laws.{List, length, take, drop, refl, sym, ap, ◌∙◌, subst, arith, inl, inr, slice_index, slice_set, Ok, Err, Result}
use Rattle.fv_base.proofs.Laws.{length-drop, take-append-drop, take-set-le, append_assoc, common_steps}
use Rattle.fv_base.proofs.Laws.{take-take_le, none_faulty, not_first, one_fault, get_or-drop, drop-drop, take_at, drop-take, field, outer_fault}
use Rattle.fv_base.specs.declared.fault.Fault.{Fault}
use Rattle.fv_base.specs.declared.flash.FileSystem.{FileSystem}
use Rattle.fv_base.specs.declared.flash.Polarity.{Polarity}
use Rattle.fv_base.specs.declared.fault.FaultKind.TheVariants as kinds
use Rattle.fv_file.specs.Words.{CellForm, IsFirstCellFault, IsNextFault, Unmarks, Walked, cell_checks, left_at, unmarked}
use Rattle.fv_file.specs.inner.CellVerdicts.{cell_verdict}
use Rattle.fv_file.proofs.Laws.{FixedThere, drop-unmarked, fault_unfixed, fixed_least, fixed_there, front_unmarked, length-unmarked}
use Rattle.fv_file.proofs.Laws.{marks_more, not_fixed_again, tiled_unfixed, verdict_first, verdict_holds, walk_begins, walk_ends}
use Rattle.fv_file.proofs.Laws.{walk_fails, walked_on}
use Rattle.fv_head.specs.Words.{BeginsVolume, HeadFields}
use Rattle.fv_head.specs.declared.extent.Extent.{Extent}
use Rattle.fv_head.proofs.Laws.{first_lies}
use Rattle.fv_marks.specs.Words.{LosesOwn}
use Rattle.fv_marks.specs.inner.MarkSteps.{BodyUnmarked, CellOf, MarkLost, NextFaultAt, WalkEnds}
use Rattle.std.proofs.lemmas.List.{drop-set-add}

module _ (s : FileSystem) (p : Polarity) (at : ℕ) (r : List ℕ) (f : Fault) (next : IsNextFault (left_at s p at r) f) where
  -- the fault of the next cell is what reading the cell gives
  verdict_of : cell_verdict s p at r ≡ Err f
  verdict_of = go (cell_verdict s p at r) refl where
    go : (x : Result CellForm Fault) → cell_verdict s p at r ≡ x → x ≡ Err f
    go (Ok c) is = absurd (not_first (cell_checks s p at r) f next.1 (none_faulty (cell_checks s p at r) (verdict_holds s p at r c is)))
    go (Err g) is = ap Err (one_fault (cell_checks s p at r) g f (verdict_first s p at r g is) next.1)

  pub next_fixed : f.kind ≡ kinds.Fixed → FixedThere s p at r f
  next_fixed kind = fixed_there s p at r f verdict_of kind

-- a header lies at the place of a fixed file, and bit 0x04 of its attributes is set
pub fixed_place : (s : FileSystem) (p : Polarity) (at : ℕ) (v : List ℕ) (f : Fault) → at ≤ length v → NextFaultAt s p at v f
    → f.kind ≡ kinds.Fixed → (at + 24 ≤ length v) × (4 ≤ slice_index v (at + 19))
fixed_place s p at v f inside next kind =
    let there = next_fixed s p at (drop at v) f next kind in
    let least : 4 ≤ slice_index (drop at v) 19 = fixed_least _ there.file.fixed in
    (omega (arith, there.long, length-drop at v, inside), grind (arith, common_steps, get_or-drop, least))

-- without its mark, the file is not fixed again
pub next_other : (s : FileSystem) (p : Polarity) (at : ℕ) (v : List ℕ) (f g : Fault) → NextFaultAt s p at v f → f.kind ≡ kinds.Fixed
    → NextFaultAt s p at (unmarked at v) g → g.kind ≢ kinds.Fixed
next_other s p at v f g next kind again =
    let there = next_fixed s p at (drop at v) f next kind in
    let again' : IsNextFault (left_at s p at (unmarked 0 (drop at v))) g = rw drop-unmarked at again in
    not_fixed_again s p at (drop at v) f there g (verdict_of s p at (unmarked 0 (drop at v)) g again')

-- a mark in the later part of bytes is a mark of this part
drop_unmarked : (n k : ℕ) (v : List ℕ) → drop n (unmarked (n + k) v) ≡ unmarked k (drop n v)
drop_unmarked n k v =
    let head : n + k + 16 ≡ n + (k + 16) = omega arith in
    let tail : n + k + 19 ≡ n + (k + 19) = omega arith in
    rw (head, tail, drop-set-add, drop-set-add, get_or-drop, get_or-drop) refl

-- a mark does not change the bytes before it
take_unmarked : (n at : ℕ) (v : List ℕ) → n ≤ at → take n (unmarked at v) ≡ take n v
take_unmarked n at v low = take-set-le n (slice_set v (at + 16) ((slice_index v (at + 16) + 4) % 256)) (at + 19) (slice_index v (at + 19) - 4) (omega (arith, low))
    ∙ take-set-le n v (at + 16) ((slice_index v (at + 16) + 4) % 256) (omega (arith, low))

module _ (s : FileSystem) (p : Polarity) (first : ℕ) where
  -- the marks of the body of v0 up to the place `at` were taken away in v, and the walk passed some cells up to there
  pub record Upto (v0 v : List ℕ) (at : ℕ) : Type 0 where
    pub places : List ℕ
    pub marks : Unmarks s p first places (drop first v0) (drop first v)
    pub front : take first v ≡ take first v0
    pub length_is : length v ≡ length v0
    pub cells : List CellForm
    pub walked : Walked (left_at s p first (drop first v)) cells (left_at s p at (drop at v))
    pub low : first ≤ at
    pub inside : at ≤ length v
    pub multiple : at % 8 ≡ 0

  pub begun : (v : List ℕ) → first ≤ length v → first % 8 ≡ 0 → Upto v v first
  begun v inside multiple = record {
    places = [];
    marks = refl;
    front = refl;
    length_is = refl;
    cells = [];
    walked = walk_begins (left_at s p first (drop first v));
    low = omega arith;
    inside = inside;
    multiple = multiple;
  }

  module _ (v0 v : List ℕ) (at : ℕ) (k : Upto v0 v at) where
    -- ---- 1. a mark

    module _ (f : Fault) (next : NextFaultAt s p at v f) (kind : f.kind ≡ kinds.Fixed) where
      abbrev pub w : List ℕ
      w = unmarked at v

      abbrev pub q : ℕ
      q = at - first

      at_is : at ≡ first + q
      at_is = omega (arith, k.low)

      there : FixedThere s p at (drop at v) f
      there = next_fixed s p at (drop at v) f next kind

      body_is : drop first w ≡ unmarked q (drop first v)
      body_is = ap (λ (n : ℕ). drop first (unmarked n v)) at_is ∙ drop_unmarked first q v

      here : IsFirstCellFault s p first (drop first v) (outer_fault kinds.Fixed (first + q + 19))
      here =
          subst (λ (g : Fault). IsFirstCellFault s p first (drop first v) g)
          (there.file.fault ∙ ap (λ (n : ℕ). outer_fault kinds.Fixed (n + 19)) at_is)
          (walk_fails (left_at s p first (drop first v)) (left_at s p at (drop at v)) k.cells f k.walked next)

      long : length k.walked.passed ≡ q
      long = omega (arith, k.walked.place)

      prefix : take q (drop first w) ≡ k.walked.passed
      prefix = ap (take q) body_is ∙ front_unmarked q (drop first v) ∙ ap (take q) k.walked.text
          ∙ take_at k.walked.passed (drop at v) q long

      rest : drop q (drop first w) ≡ drop at w
      rest = drop-drop q first w ∙ ap (λ (n : ℕ). drop n w) (omega (arith, k.low))

      text : drop first w ≡ k.walked.passed ++ drop at w
      text = sym (take-append-drop q (drop first w)) ∙ ap (λ (l : List ℕ). l ++ drop q (drop first w)) prefix
          ∙ ap (λ (l : List ℕ). k.walked.passed ++ l) rest

      pub unmarked_upto : Upto v0 w at
      unmarked_upto = record {
        places = k.places ++ q ∷ [];
        marks = subst (λ (l : List ℕ). Unmarks s p first (k.places ++ q ∷ []) (drop first v0) l) (sym body_is)
            (marks_more s p first k.places q (drop first v0) (drop first v) k.marks here);
        front = take_unmarked first at v k.low ∙ k.front;
        length_is = length-unmarked at v ∙ k.length_is;
        cells = k.cells;
        walked = record {
          passed = k.walked.passed;
          text = text;
          tiled = k.walked.tiled;
          none_free = λ some. k.walked.none_free (omega (arith, there.long));
          place = k.walked.place;
          system = refl;
          polarity = refl;
        };
        low = k.low;
        inside = omega (arith, k.inside, length-unmarked at v);
        multiple = k.multiple;
      }

    pub marked : (w : List ℕ) → MarkLost s p at v w → Upto v0 w at
    marked w (inl same) = rw same k
    marked w (inr ((f, next, kind), lost)) = rw lost (unmarked_upto f next kind)

    -- ---- 2. a cell, or the end

    pub passed : (n : ℕ) → CellOf s p at n v → n % 8 ≡ 0 → Upto v0 v (at + n)
    passed n ((c, walk), some, within) eights = record {
      places = k.places;
      marks = k.marks;
      front = k.front;
      length_is = k.length_is;
      cells = k.cells ++ c ∷ [];
      walked = walked_on (left_at s p first (drop first v)) (left_at s p at (drop at v)) (left_at s p (at + n) (drop (at + n) v)) k.cells c k.walked walk;
      low = omega (arith, k.low);
      inside = within;
      multiple = omega (arith, k.multiple, eights);
    }

    pub ended : WalkEnds s p at v → BodyUnmarked s p first v0 v
    ended (inl none) = record {
      places = k.places;
      marks = k.marks;
      front = k.front;
      length_is = k.length_is;
      ends = tiled_unfixed s p first (drop first v) k.cells
          (walk_ends (left_at s p first (drop first v)) (left_at s p at (drop at v)) k.cells k.walked none);
    }
    ended (inr (f, next, other)) = record {
      places = k.places;
      marks = k.marks;
      front = k.front;
      length_is = k.length_is;
      ends = fault_unfixed s p first (drop first v) f
          (walk_fails (left_at s p first (drop first v)) (left_at s p at (drop at v)) k.cells f k.walked next) other;
    }

-- ---- 3. the bytes around the volume

module _ (b w : List ℕ) (h : HeadFields) (e : Extent) (front : BeginsVolume h e b)
    (k : BodyUnmarked e.file_system e.polarity e.first (take e.length b) w) where
  low : e.first ≤ e.length
  low = (first_lies b h e front).1

  body_in : drop e.first (take e.length b) ≡ field e.first (e.length - e.first) b
  body_in = ap (λ (n : ℕ). drop e.first (take n b)) (omega (arith, low)) ∙ drop-take e.first (e.length - e.first) b

  text_is : w ++ drop e.length b ≡ take e.first b ++ (drop e.first w ++ drop e.length b)
  text_is = ap (λ (l : List ℕ). l ++ drop e.length b) (sym (take-append-drop e.first w))
      ∙ append_assoc (take e.first w) (drop e.first w) (drop e.length b)
      ∙ ap (λ (l : List ℕ). l ++ (drop e.first w ++ drop e.length b)) (k.front ∙ before)
    where
      before : take e.first (take e.length b) ≡ take e.first b
      before = grind (arith, common_steps, take-take_le, low)

  pub lost_own : LosesOwn b (w ++ drop e.length b)
  lost_own = inr (
    e,
    drop e.first w,
    record {
      head = h;
      begins = front;
      places = k.places;
      marks = subst (λ (l : List ℕ). Unmarks e.file_system e.polarity e.first k.places l (drop e.first w)) body_in k.marks;
      text = text_is;
    },
    k.ends,
  )
