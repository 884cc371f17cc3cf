-- A body is tiled by cells in at most one way (`one_tiling`), because a tiling is cut where the cells of another tiling
-- end (`cut`). Cells that are not free, and one more cell, tile the joined bytes (`one_more`).
use Rattle.std.proofs.Common.{◌≡◌, ◌<◌, ℕ, ◌+◌, [], ◌∷◌, ◌++◌, add-zero}
use Rattle.fv_base.proofs.Laws.{List, length, refl, sym, ap, ◌∙◌, subst, arith, true, false, length-append, append_assoc, append-nil, same_cut}
use Rattle.fv_base.specs.declared.flash.Polarity.{Polarity}
use Rattle.fv_base.specs.declared.flash.FileSystem.{FileSystem}
use Rattle.fv_file.specs.Words.{CellForm, offset_of, is_free, IsCell, Tiles, NoneFree}

-- at one place at most one cell begins, and a free cell only if it is all the rest
abbrev pub OneCell : FileSystem → Polarity → Type 0
OneCell s p = (c d : CellForm) (u v w z : List ℕ) → IsCell s p c u → IsCell s p d v → offset_of c ≡ offset_of d
    → (is_free c ≡ true → w ≡ []) → (is_free d ≡ true → z ≡ []) → u ++ w ≡ v ++ z → (c ≡ d) × (length u ≡ length v)

-- each cell has at least one byte
abbrev pub NotEmpty : FileSystem → Polarity → Type 0
NotEmpty s p = (c : CellForm) (u : List ℕ) → IsCell s p c u → 0 < length u

-- an empty list of cells tiles only an empty list of bytes
pub no_rest : (s : FileSystem) (p : Polarity) (at : ℕ) (cs : List CellForm) (b : List ℕ) → cs ≡ [] → Tiles s p at cs b → b ≡ []
no_rest s p at [] b e t = t
no_rest s p at (c ∷ cs) b e t = cc

-- if none of some cells is free where bytes follow, and the first of them is free, no bytes follow
pub none_behind : (c : CellForm) (cs : List CellForm) (y : List ℕ) → (0 < length y → NoneFree (c ∷ cs)) → is_free c ≡ true → y ≡ []
none_behind c cs [] free f = refl
none_behind c cs (a ∷ y) free f = let used = free (omega arith) in cc

module _ (s : FileSystem) (p : Polarity) (one : OneCell s p) (some : NotEmpty s p) where
  -- only an empty list of cells tiles an empty list of bytes
  no_cells : (at : ℕ) (cs : List CellForm) → Tiles s p at cs [] → cs ≡ []
  no_cells at [] t = refl
  no_cells at (c ∷ cs) (u, w, e, is, o, last, more) = absurd (omega (arith, some c u is, ap length e, length-append u w))

  -- every tiling of joined bytes begins with the cells that tile the first part, if none of them is free where bytes
  -- follow
  pub cut : (at : ℕ) (cs ds : List CellForm) (x y : List ℕ) → Tiles s p at cs x → (0 < length y → NoneFree cs) → Tiles s p at ds (x ++ y)
      → (more : List CellForm) × (ds ≡ cs ++ more) × Tiles s p (at + length x) more y
  cut at [] ds x y t free t' = (ds, refl, rw (t, add-zero) (rw t at t'))
  cut at (c ∷ cs) [] x y (u, w, e, is, o, last, more) free t' =
      absurd (omega (arith, some c u is, ap length t', ap length e, length-append u w, length-append x y))
  cut at (c ∷ cs) (d ∷ ds) x y (u, w, e, is, o, last, more) free (v, z, e', is', o', last', more') =
      let whole : u ++ (w ++ y) ≡ v ++ z = sym (append_assoc u w y) ∙ ap (λ l. l ++ y) (sym e) ∙ e' in
      let no = λ (f : is_free c ≡ true). ap (λ l. l ++ y) (no_rest s p _ cs w (last f) more) ∙ none_behind c cs y free f in
      let r = one c d u v (w ++ y) z is is' (o ∙ sym o') no (λ f. no_rest s p _ ds z (last' f) more') whole in
      let rest : Tiles s p (at + length u) ds (w ++ y) = rw (r.1, (same_cut u v (w ++ y) z r.1 whole).1) more' in
      let k = cut (at + length u) cs ds w y more (λ l. (free l).1) rest in
      let place : at + length u + length w ≡ at + length x = omega (arith, ap length e, length-append u w) in
      (k.0, cc (r.0, k.1), subst (λ n. Tiles s p n k.0 y) place k.2)

  -- bytes have at most one tiling
  pub one_tiling : (at : ℕ) (cs ds : List CellForm) (b : List ℕ) → Tiles s p at cs b → Tiles s p at ds b → cs ≡ ds
  one_tiling at cs ds b t t' =
      let k = cut at cs ds b [] t (λ l. absurd (omega (arith, l))) (rw append-nil t') in
      sym (k.1 ∙ ap (λ l. cs ++ l) (no_cells _ k.0 k.2) ∙ append-nil cs)

-- cells that are not free, and one more cell, tile the joined bytes
pub one_more : (s : FileSystem) (p : Polarity) (at : ℕ) (cs : List CellForm) (c : CellForm) (x y : List ℕ) → Tiles s p at cs x → NoneFree cs
    → IsCell s p c y → offset_of c ≡ at + length x → Tiles s p at (cs ++ c ∷ []) (x ++ y)
one_more s p at [] c x y t free is o = (y, [], rw (t, append-nil), is, rw (t, add-zero) at o, λ f. refl, refl)
one_more s p at (d ∷ ds) c x y (u, w, e, is', o', last, more) free is o =
    let k = one_more s p (at + length u) ds c w y more free.1 is (omega (arith, o, ap length e, length-append u w)) in
    (u, w ++ y, ap (λ l. l ++ y) e ∙ append_assoc u w y, is', o', λ f. cc, k)

-- if none of some cells is free, and one more cell is not free, none of all these cells is free
pub none_more : (cs : List CellForm) (c : CellForm) → NoneFree cs → is_free c ≡ false → NoneFree (cs ++ c ∷ [])
none_more [] c h f = (f, tt)
none_more (d ∷ ds) c h f = (h.0, none_more ds c h.1 f)
