-- The data of each file or pad in a tiling are the bytes of the volume from the end of the file's header to the end of
-- the file (`IsPayloadIn`). Each valid file in a tiling of bytes meets the conditions of `FileRead`. The steps:
-- 1. There are at most as many cells as bytes (`cells_few`).
-- 2. `IsPayloadIn` is true of a cell (`cell_payload`), and so of all cells of a tiling (`tiled_payloads`,
--    `body_payloads`).
-- 3. In a tiling of bytes, each valid file meets the conditions of `FileRead` (`tiles_read`).
use Rattle.std.proofs.Common.{◌≡◌, ◌≤◌, ◌+◌, ◌-◌, ℕ, [], ◌∷◌, ◌++◌, List, length, take, drop, refl, sym, ap, ◌∙◌, subst, arith}
use Rattle.fv_base.proofs.Laws.{length-append, drop-drop, drop-append_seam, AllByRecursion, IsBytes, bytes_back, bytes_front, field-append_front}
use Rattle.fv_base.specs.declared.flash.FileSystem.{FileSystem}
use Rattle.fv_base.specs.declared.flash.Polarity.{Polarity}
use Rattle.fv_file.specs.Words.{CellForm, Valid, Pad, IsCell, IsFilled, Tiles, offset_of}
use Rattle.fv_file.specs.declared.head.FileHead.{FileHead}
use Rattle.fv_file.proofs.CellPartLemmas.{filled_span, file_made_up, not_empty}
use Rattle.fv_file.proofs.FileReadLemmas.{FileRead, cell_read_in, payload_behind}

-- there are at most as many cells as bytes
pub cells_few : (s : FileSystem) (p : Polarity) (at : ℕ) (cs : List CellForm) (b : List ℕ) → Tiles s p at cs b → length cs ≤ length b
cells_few s p at [] b tiles = omega arith
cells_few s p at (c ∷ cs) b (x, rest, text, is, o, free, more) =
    omega (arith, ap length text, length-append x rest, not_empty s p c x is, cells_few s p (at + length x) cs rest more)

-- ---- the data of a file or pad in the volume

-- the data of a file or pad are the bytes of the volume from the end of the file's header to the end of the file
abbrev pub IsPayloadIn : List ℕ → CellForm → Type 0
IsPayloadIn volume (Valid at head payload) = payload ≡ take (head.size - head.header_len) (drop (at + head.header_len) volume)
IsPayloadIn volume (Pad at head payload) = payload ≡ take (head.size - head.header_len) (drop (at + head.header_len) volume)
IsPayloadIn volume _ = Unit {0}

filled_payload : (s : FileSystem) (p : Polarity) (head : FileHead) (payload x rest volume : List ℕ) (at place : ℕ)
    → drop at volume ≡ x ++ rest → IsFilled s p head payload x → place ≡ at
    → payload ≡ take (head.size - head.header_len) (drop (place + head.header_len) volume)
filled_payload s p head payload x rest volume at place e filled o =
    let n : ℕ = head.size - head.header_len in
    let inside : head.header_len + n ≤ length x = omega (arith, file_made_up s p head payload x filled, filled_span s p head payload x filled) in
    payload_behind s p head payload x filled ∙ (sym (field-append_front head.header_len n x rest inside) ∙ ap (take n)
    (ap (drop head.header_len) (sym e) ∙ (drop-drop head.header_len at volume ∙ ap (λ k. drop (k + head.header_len) volume) (sym o))))

cell_payload : (s : FileSystem) (p : Polarity) (c : CellForm) (x rest volume : List ℕ) (at : ℕ) → drop at volume ≡ x ++ rest
    → IsCell s p c x → offset_of c ≡ at → IsPayloadIn volume c
cell_payload s p (Valid place head payload) x rest volume at e is o = filled_payload s p head payload x rest volume at place e is.0 o
cell_payload s p (Pad place head payload) x rest volume at e is o = filled_payload s p head payload x rest volume at place e is.0 o
cell_payload s p c x rest volume at e is o = tt

-- if cells tile a volume from the offset `at` on, `IsPayloadIn` is true of each of them
pub tiled_payloads : (s : FileSystem) (p : Polarity) (at : ℕ) (cs : List CellForm) (b volume : List ℕ) → drop at volume ≡ b
    → Tiles s p at cs b → AllByRecursion (IsPayloadIn volume) cs
tiled_payloads s p at [] b volume e tiles = tt
tiled_payloads s p at (c ∷ cs) b volume e (x, rest, text, is, o, free, more) =
    let behind : drop (at + length x) volume ≡ rest = rw (← drop-drop (length x) at volume, e, text, drop-append_seam) in
    (cell_payload s p c x rest volume at (e ∙ text) is o, tiled_payloads s p (at + length x) cs rest volume behind more)

-- if a body begins at the offset `first`, `IsPayloadIn` is true of each of its cells
pub body_payloads : (s : FileSystem) (p : Polarity) (first : ℕ) (cs : List CellForm) (volume : List ℕ)
    → Tiles s p first cs (drop first volume) → AllByRecursion (IsPayloadIn volume) cs
body_payloads s p first cs volume tiles = tiled_payloads s p first cs (drop first volume) volume refl tiles

-- ---- the valid files of a tiling

-- a valid file meets the conditions of `FileRead`; nothing is required of other cells
abbrev pub IsRead : FileSystem → ℕ → CellForm → Type 0
IsRead system limit (Valid at head payload) = FileRead system limit head payload
IsRead system limit _ = Unit {0}

one_read : (system : FileSystem) (p : Polarity) (limit : ℕ) (c : CellForm) (x : List ℕ) → IsBytes x → length x ≤ limit
    → IsCell system p c x → IsRead system limit c
one_read system p limit (Valid at head payload) x small most is = cell_read_in system p limit at head payload x small most is
one_read system p limit c x small most is = tt

pub tiles_read : (system : FileSystem) (p : Polarity) (limit at : ℕ) (cs : List CellForm) (b : List ℕ) → IsBytes b → length b ≤ limit
    → Tiles system p at cs b → AllByRecursion (IsRead system limit) cs
tiles_read system p limit at [] b small most tiles = tt
tiles_read system p limit at (c ∷ cs) b small most (x, rest, text, is, o, free, more) =
    let parts : IsBytes (x ++ rest) = subst IsBytes text small in
    let lens : length b ≡ length x + length rest = ap length text ∙ length-append x rest in (
      one_read system p limit c x (bytes_front x rest parts) (omega (arith, lens, most)) is,
      tiles_read system p limit (at + length x) cs rest (bytes_back x rest parts) (omega (arith, lens, most)) more,
    )
