-- If the header at the start of some bytes or a cell of the body has a fault, the bytes do not begin with a volume
-- whose body is tiled by cells. Otherwise they do (`tiling_decided`).
use Rattle.std.proofs.Common.{◌⊎◌, ℕ, List, drop, inl, inr, length, length-drop, length-take-le, take, arith}
use Rattle.fv_base.proofs.Laws.{First, IsBytes, IsFirstFault}
use Rattle.fv_base.specs.declared.fault.Fault.{Fault}
use Rattle.fv_file.specs.Words.{CellForm, IsFirstCellFault}
use Rattle.fv_file.proofs.Laws.{body_decided, none_after}
use Rattle.fv_head.specs.Words.{HeadFields, BeginsVolume, head_checks}
use Rattle.fv_head.specs.declared.extent.Extent.{Extent}
use Rattle.fv_head.proofs.Laws.{first_lies, front_decided, front_never, one_front}
use Rattle.fv_tree.specs.Words.{BeginsTiled, NotTiled}

-- if the header has a fault, no cells tile the body
pub bad_header : (b : List ℕ) (f : Fault) → IsFirstFault (head_checks b) f → NotTiled b f
bad_header b f first = record {
  none = λ e cs has. front_never b has.head e f has.begins first;
  first = inl first;
}

-- if a cell has a fault, no cells tile the body
pub bad_cell : (b : List ℕ) (h : HeadFields) (e : Extent) (f : Fault) → BeginsVolume h e b
    → IsFirstCellFault e.file_system e.polarity e.first (drop e.first (take e.length b)) f → NotTiled b f
bad_cell b h e f front first = record {
  none = λ x cs has.
      none_after First e.file_system e.polarity e.first _ f cs first (rw (one_front b has.head h x e has.begins front).1 at has.tiles);
  first = inr (h, e, front, first);
}

-- bytes begin with a volume whose body is tiled by cells, or have a first fault
pub tiling_decided : (b : List ℕ) → IsBytes b → ((e : Extent) × (cs : List CellForm) × BeginsTiled e cs b) ⊎ ((f : Fault) × NotTiled b f)
tiling_decided b small = elim (front_decided b small) [
  | inr (f, first) ↦ inr (f, bad_header b f first)
  | inl (x, h, front) ↦
      let long = length-take-le x.length b front.is_within in
      let body : List ℕ = drop x.first (take x.length b) in
      elim (body_decided x.file_system x.polarity x.first body
      (omega (arith, length-drop x.first (take x.length b), long, first_lies b h x front))) [
        | inr (f, bad) ↦ inr (f, bad_cell b h x f front bad)
        | inl (cs, tiles) ↦ inl (x, cs, record { head = h; begins = front; tiles = tiles })
      ]
]
