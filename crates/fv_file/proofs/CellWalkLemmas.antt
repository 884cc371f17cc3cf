-- A walk over the cells of a body. Each step passes the cell at the start of the part that is left (`stands_walked`,
-- `free_walked`). The cells that a walk passed tile the bytes that the walk passed (`walked_on`), so they tile the body
-- if nothing is left (`walk_ends`). If the next cell has a fault, this fault is the first fault of the body
-- (`walk_fails`).
use Rattle.std.proofs.Common.{◌≡◌, ◌<◌, ℕ, ◌+◌, [], ◌∷◌, ◌++◌, List, length, take, drop, refl, sym, ap, ◌∙◌, arith, length-append, append_assoc}
use Rattle.fv_base.proofs.Laws.{append-nil, take-append-drop, length-take-le, common_steps, drop-append_seam, take-append_seam, AllAre, erased_byte}
use Rattle.std.proofs.Math.Seq.{drop-length}
use Rattle.fv_base.specs.declared.fault.Fault.{Fault}
use Rattle.fv_base.specs.declared.flash.FileSystem.{FileSystem}
use Rattle.fv_base.specs.declared.flash.Polarity.{Polarity}
use Rattle.fv_file.specs.Words.{CellForm, Free, offset_of, IsCell, cell_len, IsFirstCellFault, CellsLeft, left_at, TileLeft, Walked, IsNextFault}
use Rattle.fv_file.proofs.CellFoundLemmas.{CellStandsAt}
use Rattle.fv_file.proofs.CellPartLemmas.{not_empty}
use Rattle.fv_file.proofs.TilingLemmas.{one_more, none_more}

-- ---- a step

module _ (s : FileSystem) (p : Polarity) (at : ℕ) (r : List ℕ) where
  -- a walk passes the cell at the start of the bytes, and the bytes after this cell are left
  abbrev pub After : CellForm → Type 0
  After c = Walked (left_at s p at r) (c ∷ []) (left_at s p (at + cell_len c) (drop (cell_len c) r))

  pub stands_walked : (c : CellForm) → CellStandsAt s p at c r → After c
  stands_walked c stands = record {
    passed = take (cell_len c) r;
    text = sym (take-append-drop (cell_len c) r);
    tiled = (_, [], sym (append-nil (take (cell_len c) r)), stands.cell, stands.place, λ f. refl, refl);
    none_free = λ some. (stands.not_free, tt);
    place = ap (λ (n : ℕ). at + n) (sym (length-take-le (cell_len c) r stands.within));
    system = refl;
    polarity = refl;
  }

  pub free_walked : 0 < length r → AllAre (erased_byte p) r → After (Free at (length r))
  free_walked some clean = grind (arith, common_steps, drop-length, append-nil)

-- the bytes that a walk passes at a cell are this cell
pub one_passed : (a b : CellsLeft) (c : CellForm) (w : Walked a (c ∷ []) b)
    → IsCell a.system a.polarity c w.passed × (offset_of c ≡ a.at)
one_passed a b c w = grind (arith, common_steps, append-nil)

-- ---- a walk

pub walk_begins : (a : CellsLeft) → Walked a [] a
walk_begins a = record {
  passed = [];
  text = refl;
  tiled = refl;
  none_free = λ some. tt;
  place = omega arith;
  system = refl;
  polarity = refl;
}

-- if a walk passes a cell, at least one byte was left before
walked_some : (a b : CellsLeft) (c : CellForm) → Walked a (c ∷ []) b → 0 < length a.rest
walked_some a b c w = omega (arith, not_empty a.system a.polarity c w.passed (one_passed a b c w).0, ap length w.text, length-append w.passed b.rest)

-- a walk that passed some cells, and then one more cell, passed all these cells
pub walked_on : (a b d : CellsLeft) (cs : List CellForm) (c : CellForm) → Walked a cs b → Walked b (c ∷ []) d → Walked a (cs ++ c ∷ []) d
walked_on a b d cs c w v =
    let (is, o) = one_passed b d c v in
    let free = w.none_free (walked_some b d c v) in
    let part : IsCell a.system a.polarity c v.passed = rw (← w.system, ← w.polarity) is in
    record {
      passed = w.passed ++ v.passed;
      text = w.text ∙ ap (λ (l : List ℕ). w.passed ++ l) v.text ∙ sym (append_assoc w.passed v.passed d.rest);
      tiled = one_more a.system a.polarity a.at cs c w.passed v.passed w.tiled free part (o ∙ w.place);
      none_free = λ some. none_more cs c free (v.none_free some).0;
      place = omega (arith, w.place, v.place, length-append w.passed v.passed);
      system = v.system ∙ w.system;
      polarity = v.polarity ∙ w.polarity;
    }

-- a walk that has passed all bytes has passed cells that tile them
pub walk_ends : (a b : CellsLeft) (cs : List CellForm) → Walked a cs b → b.rest ≡ [] → TileLeft cs a
walk_ends a b cs w none = grind (arith, common_steps, append-nil)

-- the fault of the next cell is the first fault of the part where the walk began
pub walk_fails : (a b : CellsLeft) (cs : List CellForm) (f : Fault) → Walked a cs b → IsNextFault b f
    → IsFirstCellFault a.system a.polarity a.at a.rest f
walk_fails a b cs f w (used, fails) =
    let n : ℕ = length w.passed in
    let some : 0 < length b.rest = some_of b.rest used in
    record {
      cells = cs;
      at = n;
      tiled = rw (w.text, take-append_seam) w.tiled;
      none_free = w.none_free some;
      inside = omega (arith, some, ap length w.text, length-append w.passed b.rest);
      not_erased = rw (w.text, drop-append_seam, ← w.polarity) used;
      fails = rw (w.text, drop-append_seam, ← w.place, ← w.polarity, ← w.system) fails;
    }
  where
    some_of : (r : List ℕ) → (AllAre (erased_byte b.polarity) r → ⊥) → 0 < length r
    some_of [] not_all = absurd (not_all tt)
    some_of (x ∷ r) not_all = omega arith
