-- A walk over a body with fixed files removes their marks up to a place, and leaves the bytes from there on as they
-- are (`walk_begins`, `walk_on`). At the end, cells tile the body without its marks (`walk_ends`). A fault of the next
-- cell is the first fault of the body without these marks (`walk_stops`).
use Rattle.std.proofs.Common.{◌≡◌, ◌≤◌, ◌<◌, ℕ, ◌+◌, ◌%◌, ◌⊎◌}
use Rattle.fv_base.proofs.Laws.{List, length, drop, refl, sym, ap, ◌∙◌, arith, inl, inr, Ok, Err, drop-drop, AllAre, erased_byte}
use Rattle.fv_base.specs.declared.fault.Fault.{Fault}
use Rattle.fv_base.specs.declared.flash.FileSystem.{FileSystem}
use Rattle.fv_base.specs.declared.flash.Polarity.{Polarity}
use Rattle.fv_file.specs.Words.{CellForm, cell_len, IsFirstCellFault, unmarked, Unmarks}
use Rattle.fv_file.specs.inner.CellVerdicts.{cell_verdict}
use Rattle.fv_file.specs.inner.MarkSteps.{OneMarkLess}
use Rattle.fv_file.proofs.UnmarkLemmas.{Unmarked, Used, Accepts, MarkStep, unmarked_begins, one_less, one_further, stands_unmarked, stopped}
use Rattle.fv_file.proofs.BodyLemmas.{all_kept}
use Rattle.fv_file.proofs.MarkedFileLemmas.{behind_mark, drop-unmarked}

-- the marks up to a place are removed in `less`, which has the same bytes as the body from there on
pub record UnmarkedUpto (s : FileSystem) (p : Polarity) (first : ℕ) (body : List ℕ) (at : ℕ) : Type 0 where
  pub less : List ℕ
  pub so_far : Unmarked s p first body less at
  pub same : drop at less ≡ drop at body

pub walk_begins : (s : FileSystem) (p : Polarity) (first : ℕ) (body : List ℕ) → UnmarkedUpto s p first body 0
walk_begins s p first body = record { less = body; so_far = unmarked_begins s p first body; same = refl }

module _ (s : FileSystem) (p : Polarity) (first : ℕ) (body : List ℕ) (at : ℕ) (k : UnmarkedUpto s p first body at) where
  -- the walk ends at the end of the body, or before an erased rest, and cells tile the body without its marks
  pub walk_ends : AllAre (erased_byte p) (drop at body) → Accepts s p first body
  walk_ends clean = (k.so_far.places, k.less, k.so_far.marks, all_kept s p first k.less k.so_far.cells at k.so_far.upto (rw k.same clean))

  module _ (used : Used s p first body at) (b : List ℕ) (step : OneMarkLess s p (first + at) (drop at body) b) where
    -- the body is unchanged, or the mark at the place is removed
    stepped : OneMarkLess s p (first + at) (drop at body) b → (new : List ℕ) × MarkStep s p first k.less new at × (drop at new ≡ b)
    stepped (inl e) = (k.less, inl refl, k.same ∙ sym e)
    stepped (inr (is, e)) = (
      unmarked at k.less,
      inr (ap (cell_verdict s p (first + at)) k.same ∙ is, refl),
      drop-unmarked at k.less ∙ ap (unmarked 0) k.same ∙ sym e,
    )

    abbrev new : List ℕ
    new = (stepped step).0

    used_still : Used s p first k.less at
    used_still = (omega (arith, used.0, k.so_far.same_length), rw k.same used.1)

    so_far : Unmarked s p first body new at
    so_far = one_less s p first body k.less new at k.so_far used_still (stepped step).1

    -- after the cell at the place, the marks up to the next place are removed
    pub walk_on : (len : ℕ) (c : CellForm) → length body % 8 ≡ 0 → cell_verdict s p (first + at) b ≡ Ok c → len ≡ cell_len c
        → (b ≡ drop at body) ⊎ (19 < len) → UnmarkedUpto s p first body (at + len) × (0 < len) × (at + len ≤ length body)
    walk_on len c in_eights is l past =
        let stands = stands_unmarked s p first body new at c in_eights so_far (ap (cell_verdict s p (first + at)) (stepped step).2 ∙ is) in
        let on = one_further s p first body new at len c so_far stands l in (
          record {
            less = new;
            so_far = on.0;
            same = sym (drop-drop len at new) ∙ ap (drop len) (stepped step).2 ∙ behind step past ∙ drop-drop len at body;
          },
          on.1,
          omega (arith, on.2, so_far.same_length),
        )
      where
        behind : OneMarkLess s p (first + at) (drop at body) b → (b ≡ drop at body) ⊎ (19 < len) → drop len b ≡ drop len (drop at body)
        behind (inl e) past = ap (drop len) e
        behind step (inl e) = ap (drop len) e
        behind (inr (fixed, e)) (inr more) = ap (drop len) e ∙ behind_mark len (drop at body) more

    -- a fault at the place is the first fault of the body without the marks that were removed
    pub walk_stops : (f : Fault) → cell_verdict s p (first + at) b ≡ Err f
        → (places : List ℕ) × (o : List ℕ) × Unmarks s p first places body o × IsFirstCellFault s p first o f
    walk_stops f is = (
      so_far.places,
      new,
      so_far.marks,
      stopped s p first body k.less new at f k.so_far used_still (stepped step).1 (ap (cell_verdict s p (first + at)) (stepped step).2 ∙ is),
    )
