-- A cell that a walk passes has the length that its fields say, which is a multiple of 8 (`cell_passed`).
use Rattle.std.proofs.Common.{◌≡◌, ◌≤◌, ◌<◌, ℕ, ◌+◌, ◌%◌, [], ◌∷◌, ◌++◌}
use Rattle.fv_base.proofs.Laws.{List, length, drop, refl, sym, ap, ◌∙◌, arith, true, false, Bool, length-append, length-drop, common_steps, drop-drop, drop_at}
use Rattle.fv_base.specs.declared.flash.FileSystem.{FileSystem}
use Rattle.fv_base.specs.declared.flash.Polarity.{Polarity}
use Rattle.fv_file.specs.Words.{CellForm, CellsLeft, IsCell, IsFilled, Walked, cell_len, is_free, left_at}
use Rattle.fv_file.proofs.Laws.{cell_span, header_least, one_passed}
use Rattle.fv_file.specs.declared.head.FileHead.{FileHead}
use Rattle.fv_marks.specs.inner.MarkSteps.{CellOf}

-- a cell has at least one byte
file_least : (s : FileSystem) (p : Polarity) (head : FileHead) (payload b : List ℕ) → IsFilled s p head payload b → 24 ≤ length b
file_least s p head payload b filled = grind (arith, common_steps, length-append, header_least)

not_empty : (s : FileSystem) (p : Polarity) (c : CellForm) (u : List ℕ) → IsCell s p c u → 0 < length u
not_empty s p c u is = grind (arith, common_steps, file_least, header_least) steps 150000

-- a cell that is not free has a multiple of 8 bytes
cell_eights : (s : FileSystem) (p : Polarity) (c : CellForm) (u : List ℕ) → IsCell s p c u → is_free c ≡ false → length u % 8 ≡ 0
cell_eights s p c u is used = grind (arith, common_steps) steps 150000

module _ (s : FileSystem) (p : Polarity) (at : ℕ) (v : List ℕ) (c : CellForm) (left : CellsLeft) (w : Walked (left_at s p at (drop at v)) (c ∷ []) left) where
  is : IsCell s p c w.passed
  is = (one_passed (left_at s p at (drop at v)) left c w).0

  long : cell_len c ≡ length w.passed
  long = cell_span s p c w.passed is

  whole : length (drop at v) ≡ length w.passed + length left.rest
  whole = ap length w.text ∙ length-append w.passed left.rest

  -- the cell ends within the bytes
  pub cell_within : cell_len c ≤ length v
  cell_within = omega (arith, long, whole, length-drop at v)

  pub cell_passed : at ≤ length v → length v % 8 ≡ 0 → at % 8 ≡ 0 → CellOf s p at (cell_len c) v × (cell_len c % 8 ≡ 0)
  cell_passed inside all start = (((c, walk), some, ends), eights (is_free c) refl) where
    some : 0 < cell_len c
    some = omega (arith, long, not_empty s p c w.passed is)

    ends : at + cell_len c ≤ length v
    ends = omega (arith, long, whole, length-drop at v, inside)

    rest : left.rest ≡ drop (at + cell_len c) v
    rest = sym (drop_at w.passed left.rest (cell_len c) (sym long)) ∙ ap (drop (cell_len c)) (sym w.text) ∙ drop-drop (cell_len c) at v

    walk : Walked (left_at s p at (drop at v)) (c ∷ []) (left_at s p (at + cell_len c) (drop (at + cell_len c) v))
    walk = record {
      passed = w.passed;
      text = w.text ∙ ap (λ (l : List ℕ). w.passed ++ l) rest;
      tiled = w.tiled;
      none_free = λ more. w.none_free (omega (arith, more, ap length rest));
      place = omega (arith, long);
      system = refl;
      polarity = refl;
    }

    eights : (t : Bool) → is_free c ≡ t → cell_len c % 8 ≡ 0
    eights false used = ap (λ (n : ℕ). n % 8) long ∙ cell_eights s p c w.passed is used
    eights true free = by_rest left.rest refl where
      by_rest : (r : List ℕ) → left.rest ≡ r → cell_len c % 8 ≡ 0
      by_rest [] none = omega (arith, long, whole, ap length none, length-drop at v, all, start, inside)
      by_rest (x ∷ r) more = cc (free, (w.none_free (omega (arith, ap length more))).0)
