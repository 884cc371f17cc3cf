-- A body is tiled by cells in one way, or there is a first place at which no cell begins. The steps:
-- 1. The cells that were read tile the body up to a place (`TiledUpto`). With the cell that is read there, they tile the
--    body up to the next place (`stands_here`, `one_on`).
-- 2. The loop ends at the end of the body (`whole_kept`), before an erased rest (`free_kept`), or at the first fault
--    (`first_here`). If there is no fault, cells tile all of the body (`all_kept`).
-- 3. A body is tiled in at most one way (`only_one`). If a check fails at a place, no cells tile the bytes up to a
--    later place (`stuck`), so the body has no tiling (`none_after`). Each cell of a tiling lies within the body
--    (`all_within`).
-- 4. A body has at most one first fault (`one_cell_fault`), because a first fault is not before another one
--    (`cell_later`). The first fault is also a fault in the sense of `Any` (`cell_fails`).
-- 5. Cells tile a body, or it has a first fault (`body_decided`).
use Rattle.std.proofs.Common.{◌≡◌, ◌≤◌, ◌<◌, ℕ, ◌+◌, ◌-◌, ◌%◌, [], ◌∷◌, ◌++◌, ◌⊎◌, List, length, take, drop, map, refl, sym, ap, ◌∙◌, subst}
use Rattle.fv_base.proofs.Laws.{arith, true, false, length-drop, length-append, Ok, Err, take-append-drop, length-take-le, take_all, append-nil}
use Rattle.fv_base.proofs.Laws.{append_assoc, take-add, Any, zero, suc, Bool, inl, inr, Result, common_steps, cases_lt, map_push, Which, AllAre}
use Rattle.fv_base.proofs.Laws.{erased_byte, all_are, all_are-true, First, IsFirstFault, any_fails, one_fault, same_place, some_between, take_past}
use Rattle.fv_base.specs.declared.fault.Fault.{Fault}
use Rattle.fv_base.specs.declared.flash.FileSystem.{FileSystem}
use Rattle.fv_base.specs.declared.flash.Polarity.{Polarity}
use Rattle.fv_file.specs.Words.{CellForm, Free, IsCell, Tiles, cell_len, CellsWithin, cell_form, NoneFree, CellFault, IsFirstCellFault, cell_checks}
use Rattle.fv_file.specs.declared.cell.Cell.{Cell}
use Rattle.fv_file.specs.inner.CellVerdicts.{cell_verdict}
use Rattle.fv_file.proofs.CellFoundLemmas.{CellStandsAt}
use Rattle.fv_file.proofs.CellPartLemmas.{cell_span, made_up, not_empty}
use Rattle.fv_file.proofs.CellVerdictLemmas.{verdict_stands, verdict_first, one_cell, no_cell}
use Rattle.fv_file.proofs.ErasedByteLemmas.{not_erased, some_left}
use Rattle.fv_file.proofs.TilingLemmas.{no_rest, none_behind, one_tiling, cut, one_more, none_more}

-- ---- the loop

module _ (s : FileSystem) (p : Polarity) (first : ℕ) (body : List ℕ) where
  -- cells that are not free tile the body up to a place
  pub record TiledUpto (cs : List CellForm) (at : ℕ) : Type 0 where
    pub tiled : Tiles s p first cs (take at body)
    pub none_free : NoneFree cs
    pub multiple : at % 8 ≡ 0
    pub inside : at ≤ length body

  pub upto_begins : TiledUpto [] 0
  upto_begins = record { tiled = refl; none_free = tt; multiple = refl; inside = omega arith }

  module _ (cs : List CellForm) (at : ℕ) (before : TiledUpto cs at) where
    -- the cell that is read at the place begins there
    pub stands_here : (c : CellForm) → length body % 8 ≡ 0 → cell_verdict s p (first + at) (drop at body) ≡ Ok c
        → CellStandsAt s p (first + at) c (drop at body)
    stands_here c in_eights is = verdict_stands s p (first + at) (drop at body) c
        (rw length-drop (omega (arith, in_eights, before.multiple, before.inside))) is

    -- with the cell that begins at the place, the cells tile the body up to the end of this cell
    pub one_on : (c : CellForm) (len : ℕ) → CellStandsAt s p (first + at) c (drop at body) → len ≡ cell_len c
        → TiledUpto (cs ++ c ∷ []) (at + len)
    one_on c len stands l = grind (arith, common_steps, length-take-le, one_more, take-add, none_more, length-drop)

    -- at the end of the body, the cells tile all of it
    pub whole_kept : length body ≤ at → Tiles s p first cs body
    whole_kept l = subst (λ (b : List ℕ). Tiles s p first cs b) (take_all at body l) before.tiled

    -- if the rest is erased, the cells and one free cell tile the body
    pub free_kept : at < length body → AllAre (erased_byte p) (drop at body)
        → Tiles s p first (cs ++ Free (first + at) (length body - at) ∷ []) body
    free_kept some clean =
        let c : CellForm = Free (first + at) (length body - at) in
        let part : IsCell s p c (drop at body) = (omega (arith, some), clean, sym (length-drop at body)) in
        rw take-append-drop at (one_more s p first cs c (take at body) (drop at body) before.tiled before.none_free part
        (omega (arith, length-take-le at body before.inside)))

    -- at the end of the body, or before an erased rest, some cells tile all of it
    pub all_kept : AllAre (erased_byte p) (drop at body) → (cells : List CellForm) × Tiles s p first cells body
    all_kept clean = grind (arith, common_steps, cases_lt, free_kept, whole_kept)

    -- the fault of the place at which a check fails is the first fault of the body
    pub first_here : (f : Fault) → (at < length body) × (AllAre (erased_byte p) (drop at body) → ⊥)
        → cell_verdict s p (first + at) (drop at body) ≡ Err f → IsFirstCellFault s p first body f
    first_here f used is = grind (arith, common_steps, not_erased, verdict_first)

-- the forms of the cells so far, and then the form of the cell that is read, are the forms of the new list
pub more_read : (items new : List Cell) (cell : Cell) (c : CellForm) → cell_form cell ≡ c → new ≡ items ++ cell ∷ []
    → map cell_form items ++ c ∷ [] ≡ map cell_form new
more_read items new cell c is n = rw (n, map_push, is)

-- if the test at a place succeeds, all bytes from there on are erased
pub rest_free : (e : ℕ) (rest body : List ℕ) (at : ℕ) → rest ≡ drop at body → all_are e rest ≡ true → AllAre e (drop at body)
rest_free e rest body at behind is = all_are-true e (drop at body) (ap (all_are e) (sym behind) ∙ is)

-- if the test at a place fails, the place is before the end of the body, and not all bytes from there on are erased
pub rest_used : (e : ℕ) (rest body : List ℕ) (at : ℕ) → rest ≡ drop at body → all_are e rest ≡ false
    → (at < length body) × (AllAre e (drop at body) → ⊥)
rest_used e rest body at behind is = grind (arith, common_steps, some_left, length-drop, not_erased)

-- ---- all tilings

-- if none of the joined cells is free, none of the cells in the second list is free
none_free_behind : (cs ds : List CellForm) → NoneFree (cs ++ ds) → NoneFree ds
none_free_behind [] ds h = h
none_free_behind (c ∷ cs) ds h = none_free_behind cs ds h.1

-- if a check fails at a place of a body, no cells tile the bytes up to a later place; a free cell is allowed only if no
-- bytes follow
stuck : (which : Which) (s : FileSystem) (p : Polarity) (first : ℕ) (body : List ℕ) (f : Fault) (ds : List CellForm) (part beyond : List ℕ)
    → (x : CellFault which s p first body f) → drop x.at body ≡ part ++ beyond → 0 < length part → (0 < length beyond → NoneFree ds)
    → Tiles s p first ds (take x.at body ++ part) → ⊥
stuck which s p first body f ds part beyond x e some free t =
    let k = cut s p (one_cell s p) (not_empty s p) first x.cells ds _ part x.tiled (λ l. x.none_free) t in
    go k.0 (λ l. none_free_behind x.cells k.0 (rw (← k.1) (free l))) k.2
  where
    go : (more : List CellForm) → (0 < length beyond → NoneFree more) → Tiles s p (first + length (take x.at body)) more part → ⊥
    go [] free z = omega (arith, ap length z, some)
    go (c ∷ cs) free (u, w, z, is, o, last, more) =
        no_cell which s p _ _ f c u (w ++ beyond) x.fails x.not_erased is (rw (length-take-le x.at body (omega (arith, x.inside))) at o)
        (e ∙ ap (λ l. l ++ beyond) z ∙ append_assoc u w beyond)
        (λ yes. ap (λ l. l ++ beyond) (no_rest s p _ cs w (last yes) more) ∙ none_behind c cs beyond free yes)

-- a body is tiled in at most one way
pub only_one : (s : FileSystem) (p : Polarity) (first : ℕ) (body : List ℕ) (cs ds : List CellForm) → Tiles s p first cs body
    → Tiles s p first ds body → ds ≡ cs
only_one s p first body cs ds t t' = one_tiling s p (one_cell s p) (not_empty s p) first ds cs body t' t

-- if a check fails at a place of a body, the body has no tiling
pub none_after : (which : Which) (s : FileSystem) (p : Polarity) (first : ℕ) (body : List ℕ) (f : Fault) (ds : List CellForm)
    → CellFault which s p first body f → Tiles s p first ds body → ⊥
none_after which s p first body f ds x t =
    stuck which s p first body f ds (drop x.at body) [] x (sym (append-nil _)) (omega (arith, x.inside, length-drop x.at body))
    (λ l. absurd (omega (arith, l))) (rw take-append-drop t)

-- each cell of a tiling lies within the body, and the header and the data of a file make up its size
pub all_within : (s : FileSystem) (p : Polarity) (at : ℕ) (cs : List CellForm) (b : List ℕ) → Tiles s p at cs b
    → CellsWithin (at + length b) cs
all_within s p at [] b t = tt
all_within s p at (c ∷ cs) b (x, rest, e, is, o, last, more) =
    let n : length b ≡ length x + length rest = ap length e ∙ length-append x rest in
    let behind = subst (λ (k : ℕ). CellsWithin k cs) (omega (arith, n)) (all_within s p (at + length x) cs rest more) in
    (omega (arith, o, cell_span s p c x is, n), made_up s p c x is, behind)

-- ---- the first fault

-- the first fault of a body is also a fault of the body in the sense of `Any`
pub cell_fails : (s : FileSystem) (p : Polarity) (from : ℕ) (body : List ℕ) (f : Fault) → CellFault First s p from body f
    → CellFault Any s p from body f
cell_fails s p from body f first = grind (arith, common_steps, any_fails)

module _ (s : FileSystem) (p : Polarity) (first : ℕ) (body : List ℕ) where
  -- a first fault is not before another first fault, because cells tile the body up to the other one
  cell_later : (f g : Fault) → (x : IsFirstCellFault s p first body f) → (y : IsFirstCellFault s p first body g) → x.at < y.at → ⊥
  cell_later f g x y l =
      stuck First s p first body f y.cells _ (drop (y.at - x.at) (drop x.at body)) x (sym (take-append-drop (y.at - x.at) (drop x.at body)))
      (some_between body x.at y.at l y.inside) (λ some. y.none_free) (rw (← take_past body x.at y.at l) y.tiled)

  -- a body has at most one first fault of its cells
  pub one_cell_fault : (f g : Fault) → IsFirstCellFault s p first body f → IsFirstCellFault s p first body g → f ≡ g
  one_cell_fault f g x y =
      let at : x.at ≡ y.at = same_place x.at y.at (cell_later f g x y) (cell_later g f y x) in
      one_fault _ f g (subst (λ (k : ℕ). IsFirstFault (cell_checks s p (first + k) (drop k body)) f) at x.fails) y.fails

-- ---- a tiling or a first fault

module _ (s : FileSystem) (p : Polarity) (first : ℕ) (body : List ℕ) where
  -- cells tile the body, or the body has a first fault
  abbrev pub TilingDecided : Type 0
  TilingDecided = ((cs : List CellForm) × Tiles s p first cs body) ⊎ ((f : Fault) × IsFirstCellFault s p first body f)

  module _ (in_eights : length body % 8 ≡ 0) where
    -- from cells that tile the body up to a place, the walk finds a tiling or a first fault in n steps
    abbrev TilingGoesOn : ℕ → Type 0
    TilingGoesOn n = (cs : List CellForm) (at : ℕ) → TiledUpto s p first body cs at → length body ≤ at + n → TilingDecided

    walk : (n : ℕ) → TilingGoesOn n
    walk zero cs at k more = inl (cs, whole_kept s p first body cs at k (omega (arith, more)))
    walk (suc n) cs at k more = by_rest (walk n) (all_are (erased_byte p) (drop at body)) refl where
      by_verdict : TilingGoesOn n → (at < length body) × (AllAre (erased_byte p) (drop at body) → ⊥) → (r : Result CellForm Fault)
          → cell_verdict s p (first + at) (drop at body) ≡ r → TilingDecided
      by_verdict on used (Ok c) is =
          let stands = stands_here s p first body cs at k c in_eights is in
          on (cs ++ c ∷ []) (at + cell_len c) (one_on s p first body cs at k c (cell_len c) stands refl) (omega (arith, more, stands.some))
      by_verdict on used (Err f) is = inr (f, first_here s p first body cs at k f used is)

      by_rest : TilingGoesOn n → (t : Bool) → all_are (erased_byte p) (drop at body) ≡ t → TilingDecided
      by_rest on true clean = inl (all_kept s p first body cs at k (rest_free (erased_byte p) (drop at body) body at refl clean))
      by_rest on false used = by_verdict on (rest_used (erased_byte p) (drop at body) body at refl used) _ refl

    pub body_decided : TilingDecided
    body_decided = walk (length body) [] 0 (upto_begins s p first body) (omega arith)
