-- The sums of the lengths of cells count each byte of the cells once, so no sum overflows (`counted_is`,
-- `counted_next`). The cells of a volume fit together (`fit_together`).
use Rattle.std.proofs.Common.{◌≡◌, ◌≤◌, ◌<◌, ◌+◌, ◌^◌, ℕ, [], ◌∷◌, List, length, take, drop, get_or, refl, sym, ap}
use Rattle.fv_base.proofs.Laws.{arith, length-append, length-drop, map, length-take-le, AllByRecursion, map_more}
use Rattle.fv_base.proofs.Laws.{sum_by-cons, sum_by_push, at_index, length-map, volume_limit}
use Rattle.std.proofs.Math.ListN.{get_or-map}
use Rattle.std.proofs.lemmas.List.{take-map}
use Rattle.std.proofs.lemmas.List.Sums.{sum_by_more_le}
use Rattle.std.specs.List.{sum_by}
use Rattle.fv_base.specs.declared.flash.FileSystem.{FileSystem}
use Rattle.fv_base.specs.declared.flash.Polarity.{Polarity}
use Rattle.fv_file.proofs.Laws.{cell_span}
use Rattle.fv_file.specs.Words.{CellForm, Valid, Tiles, CellsWithin, cell_len}
use Rattle.fv_head.specs.declared.extent.Extent.{Extent}
use Rattle.fv_head.proofs.Laws.{first_lies}
use Rattle.fv_tree.specs.Words.{BeginsTiled}
use Rattle.fv_lines.specs.Words.{lengths_of, sums_of}
use Rattle.fv_lines.specs.inner.LineRuns.{CellFits, FitTogether, counted, sums_with}

-- ---- sums

-- the sums of the first i + 1 cells are the sums of the first i cells with the next cell added; each item has the form
-- of a cell
pub sums_next : {X : Type 0} (see : X → CellForm) (xs : List X) (i : ℕ) (d : X) → i < length xs
    → sums_of (map see (take (i + 1) xs)) ≡ sums_with (sums_of (map see (take i xs))) (see (get_or xs i d))
sums_next see xs i d l = rw (map_more see xs i d l) (simp sum_by_push)

-- the lengths of one cell count its bytes once
one : (c : CellForm) → counted (lengths_of c) ≡ cell_len c
one (Valid at head payload) = omega arith
one c = omega arith

-- so each byte of the cells is counted once
counted_is : (cs : List CellForm) → counted (sums_of cs) ≡ sum_by cell_len cs
counted_is [] = refl
counted_is (c ∷ cs) = omega (arith, sum_by-cons {X = CellForm}, counted_is cs, one c)

-- so no sum overflows when one more cell is added
pub counted_next : {X : Type 0} (see : X → CellForm) (xs : List X) (i : ℕ) (d : X) → i < length xs
    → sum_by cell_len (map see xs) < 2 ^ 63 → counted (sums_of (map see (take i xs))) + cell_len (see (get_or xs i d)) < 2 ^ 63
counted_next see xs i d l small =
    let most = rw (take-map, get_or-map see xs i d) at (sum_by_more_le cell_len (map see xs) i (see d) (omega (arith, l, length-map xs see))) in
    omega (arith, small, most, counted_is (map see (take i xs)))

-- ---- cells fit into a volume

-- an item of a list whose cells all fit has a cell that fits
pub fits_at : {X : Type 0} (see : X → CellForm) (xs : List X) (i : ℕ) (d : X) → i < length xs
    → AllByRecursion CellFits (map see xs) → CellFits (see (get_or xs i d))
fits_at see xs i d l all = rw (get_or-map see xs i d) at (at_index CellFits (map see xs) i (see d) all (omega (arith, l, length-map xs see)))

-- cells that lie within a volume fit, because a volume has at most `volume_limit` bytes
all_fit : (end : ℕ) (cs : List CellForm) → end ≤ volume_limit → CellsWithin end cs → AllByRecursion CellFits cs
all_fit end [] small within = tt
all_fit end (c ∷ cs) small (lies, made, rest) =
    (record { within = omega (arith, lies, small); lengths_agree = made }, all_fit end cs small rest)

-- the lengths of cells that tile some bytes sum to the number of these bytes
tiles_sum : (s : FileSystem) (p : Polarity) (at : ℕ) (cs : List CellForm) (b : List ℕ) → Tiles s p at cs b → sum_by cell_len cs ≡ length b
tiles_sum s p at [] b text = sym (ap length text)
tiles_sum s p at (c ∷ cs) b (x, rest, text, is, place, last, more) =
    rw (text, length-append) (omega (arith, sum_by-cons {X = CellForm}, cell_span s p c x is, tiles_sum s p (at + length x) cs rest more))

-- the cells of the volume that an input begins with fit together
pub fit_together : (input : List ℕ) (e : Extent) (cs : List CellForm) → BeginsTiled e cs input
    → CellsWithin (length (take e.length input)) cs → FitTogether cs
fit_together input e cs b within =
    let volume = take e.length input in
    let small : length volume ≤ volume_limit =
    omega (arith, length-take-le e.length input b.begins.is_within, b.begins.length_is, b.begins.head.volume_most) in
    record {
      each = all_fit (length volume) cs small within;
      together =
          omega (arith, tiles_sum e.file_system e.polarity e.first cs (drop e.first volume) b.tiles, length-drop e.first volume, small);
    }

-- the sums of the cells of a volume, with the bytes before its body, are its length
pub add_up : (b : List ℕ) (e : Extent) (cs : List CellForm) → BeginsTiled e cs b → e.first + counted (sums_of cs) ≡ e.length
add_up b e cs t =
    let volume = take e.length b in
    let long : length volume ≡ e.length = length-take-le e.length b t.begins.is_within in
    omega (
      arith,
      counted_is cs,
      tiles_sum e.file_system e.polarity e.first cs (drop e.first volume) t.tiles,
      length-drop e.first volume,
      long,
      (first_lies b t.head e t.begins).1,
    )
