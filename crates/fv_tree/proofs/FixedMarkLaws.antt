-- If the fixed bits of a volume's files are cleared and cells tile the new body, the bytes are the unfixed volume: they
-- begin with the same header, cells tile their body, and no other bytes are an unfixed volume.
use Rattle.std.proofs.Common.{◌≡◌, ℕ, ◌+◌, ◌-◌, ◌≤◌, ◌++◌, [], ◌≢◌, List, length, take, drop, sym, ap, ◌∙◌, arith, append_assoc, inl, inr, refl}
use Rattle.fv_base.proofs.Laws.{common_steps, drop-drop, drop_at, take_at, drop-take, First, field, le, le_at, take-take_le, field-take, none_faulty}
use Rattle.fv_base.proofs.Laws.{not_first, Option, None, Some, length-append, length-take-le, length-drop, take-append-drop}
use Rattle.fv_base.specs.declared.fault.Fault.{Fault}
use Rattle.fv_file.specs.Words.{CellForm, Tiles, IsFirstCellFault, Unmarks}
use Rattle.fv_file.proofs.Laws.{length-unmarks, none_after, NoneFixed, tiled_unfixed, fault_unfixed, one_unmarked}
use Rattle.fv_head.specs.Words.{Extension, HasExt, HeadFields, BeginsVolume, head_checks}
use Rattle.fv_head.specs.declared.extent.Extent.{Extent}
use Rattle.fv_head.proofs.Laws.{first_lies, front_lies, one_front, front_holds}
use Rattle.fv_tree.specs.Words.{Unfixes, IsUnfixed, UnfixStops, BeginsTiled}
use Rattle.fv_base.specs.declared.fault.FaultKind.TheVariants as kinds

module _ (e : Extent) (b o : List ℕ) (same : take e.first o ≡ take e.first b) where
  -- the value of a field before the first file is the same
  field_kept : (at size : ℕ) → at + size ≤ e.first → field at size o ≡ field at size b
  field_kept at size low = sym (field-take at size e.first o low) ∙ ap (field at size) same ∙ field-take at size e.first b low

  -- the first n bytes are the same if they are before the first file
  front_kept : (n : ℕ) → n ≤ e.first → take n o ≡ take n b
  front_kept n low = sym (take-take_le n e.first o low) ∙ ap (take n) same ∙ take-take_le n e.first b low

  -- the extended header is the same, and the header ends before the first file
  ext_kept : (x : Option Extension) → 64 ≤ e.header_len → HasExt x e b → HasExt x e o × (e.header_len ≤ e.first)
  ext_kept None least (none, at) =
      let low : e.header_len ≤ e.first = omega (arith, at) in
      ((ap le (field_kept 52 2 (omega (arith, least, low))) ∙ none, at), low)
  ext_kept (Some x) least (before, part, behind, text, offset, low, within, is, at) =
      let n : ℕ = length before + length part in
      let inside : n ≤ e.first = omega (arith, at) in
      let text' : b ≡ (before ++ part) ++ behind = simp append_assoc text in
      let front : take n o ≡ before ++ part = front_kept n inside ∙ rw text' (take_at (before ++ part) behind n (length-append before part)) in
      let whole : o ≡ before ++ (part ++ drop n o) = rw (front, append_assoc) at (sym (take-append-drop n o)) in
      let fields : le_at 52 2 o ≡ le_at 52 2 b = ap le (field_kept 52 2 (omega (arith, least, low, inside))) in
      ((before, part, drop n o, whole, rw fields offset, low, within, is, at), omega (arith, low, inside))

-- the bytes begin with the same header
pub header_kept : (b o : List ℕ) (h : HeadFields) (e : Extent) → BeginsVolume h e b → length o ≡ length b → take e.first o ≡ take e.first b
    → BeginsVolume h e o
header_kept b o h e front long same =
    let ext = ext_kept e b o same h.ext (front_lies b h e front).least front.ext in
    grind (arith, common_steps, front, front_kept e b o same e.header_len ext.1, ext.0)

-- the new body is in its place, and the number of bytes and the bytes before the body are unchanged
pub record Kept (e : Extent) (b o body : List ℕ) : Type 0 where
  pub length_is : length o ≡ length b
  pub prefix : take e.first o ≡ take e.first b
  pub body_is : drop e.first (take e.length o) ≡ body

pub kept : (b o body : List ℕ) (e : Extent) → Unfixes e b o body → Kept e b o body
kept b o body e u =
    let lies = first_lies b u.head e u.begins in
    let long : length body ≡ e.length - e.first = length-unmarks _ _ _ _ _ _ u.marks
    ∙ length-take-le (e.length - e.first) (drop e.first b) (omega (arith, length-drop e.first b, u.begins.is_within, lies.1)) in
    let before : length (take e.first b) ≡ e.first = length-take-le e.first b (omega (arith, u.begins.is_within, lies.1)) in
    let text : o ≡ (take e.first b ++ body) ++ drop e.length b = simp append_assoc u.text in
    let whole = take_at (take e.first b ++ body) (drop e.length b) e.length (omega (arith, length-append {A = ℕ}, before, long, lies.1)) in
    record {
      length_is = omega (arith, ap length text, length-append {A = ℕ}, before, long, length-drop e.length b, u.begins.is_within, lies.1);
      prefix = rw u.text (take_at (take e.first b) (body ++ drop e.length b) e.first before);
      body_is = rw (text, whole) (drop_at (take e.first b) body e.first before);
    }

-- cells that tile the new body tile the body of the new volume
tiled_there : (b o body : List ℕ) (e : Extent) (cells : List CellForm) → Unfixes e b o body
    → Tiles e.file_system e.polarity e.first cells body → BeginsTiled e cells o
tiled_there b o body e cells u tiles =
    let k = kept b o body e u in
    record {
      head = u.head;
      begins = header_kept b o u.head e u.begins k.length_is k.prefix;
      tiles = rw k.body_is tiles;
    }

-- cells that tile the body of the new volume tile the new body
pub body_tiled : (b o body : List ℕ) (e : Extent) (cells : List CellForm) → Unfixes e b o body → BeginsTiled e cells o
    → Tiles e.file_system e.polarity e.first cells body
body_tiled b o body e cells u tiled = rw (kept b o body e u).body_is at tiled.tiles

-- ---- the unfixed volume is unique

-- if the first fault of the new body is not Fixed and x is an unfixed volume, then cells tile the new body, and x is
-- the bytes with the new body
one_unfixed : (b o body : List ℕ) (e : Extent) → Unfixes e b o body → NoneFixed e.file_system e.polarity e.first body
    → (x : List ℕ) → IsUnfixed b x → ((cells : List CellForm) × Tiles e.file_system e.polarity e.first cells body) × (x ≡ o)
one_unfixed b o body e u end x (f, changed, w, (cells, tiled)) =
    let one : f ≡ e = (one_front b w.head u.head f e w.begins u.begins).1 in
    let v : Unfixes e b x changed = rw one at w in
    let tiles = body_tiled b x changed e cells v (rw one at tiled) in
    let same : changed ≡ body =
    one_unmarked e.file_system e.polarity e.first u.places v.places (field e.first (e.length - e.first) b) body changed u.marks end v.marks
    (tiled_unfixed e.file_system e.polarity e.first changed cells tiles) in
    ((cells, rw same at tiles), cc (v.text, u.text, same))

-- bytes have at most one unfixed volume
pub only_unfixed : (b o x : List ℕ) → IsUnfixed b o → IsUnfixed b x → x ≡ o
only_unfixed b o x (e, body, u, (cells, tiled)) other =
    (one_unfixed b o body e u (tiled_unfixed e.file_system e.polarity e.first body cells (body_tiled b o body e cells u tiled)) x other).1

-- if the header has a fault, or a cell of the new body has a fault other than Fixed, there is no unfixed volume
pub none_unfixed : (b : List ℕ) (f : Fault) → UnfixStops b f → (x : List ℕ) → IsUnfixed b x → ⊥
none_unfixed b f (inl first) x other =
    not_first (head_checks b) f first (none_faulty (head_checks b) (front_holds b other.2.head other.0 other.2.begins))
none_unfixed b f (inr (e, o, body, u, here, kind)) x other =
    let one = one_unfixed b o body e u (fault_unfixed e.file_system e.polarity e.first body f here kind) x other in
    none_after First e.file_system e.polarity e.first body f one.0.0 here one.0.1

-- ---- the body is changed in place

module _ (b : List ℕ) (h : HeadFields) (e : Extent) (front : BeginsVolume h e b) where
  rest_is : drop (e.length - e.first) (drop e.first b) ≡ drop e.length b
  rest_is = drop-drop (e.length - e.first) e.first b ∙ ap (λ (n : ℕ). drop n b) (omega (arith, (first_lies b h e front).1))

  -- the bytes with another body
  abbrev pub with_body : List ℕ → List ℕ
  with_body body = take e.first b ++ (body ++ drop (e.length - e.first) (drop e.first b))

  -- the bytes with their own body are unchanged
  pub same_body : with_body (field e.first (e.length - e.first) b) ≡ b
  same_body = rw (take-append-drop (e.length - e.first) (drop e.first b)) (take-append-drop e.first b)

  module _ (body places : List ℕ) (marks : Unmarks e.file_system e.polarity e.first places (field e.first (e.length - e.first) b) body) where
    in_place : Unfixes e b (with_body body) body
    in_place = record { head = h; begins = front; places = places; marks = marks; text = ap (λ (y : List ℕ). take e.first b ++ (body ++ y)) rest_is }

    -- if cells tile the new body, the bytes with this body are the unfixed volume
    pub is_unfixed : (cells : List CellForm) → Tiles e.file_system e.polarity e.first cells body → IsUnfixed b (with_body body)
    is_unfixed cells tiles = (e, body, in_place, (cells, tiled_there b (with_body body) body e cells in_place tiles))

    -- if the first fault of the new body is not Fixed, clearing the fixed bits stops with this fault
    pub stops_there : (f : Fault) → IsFirstCellFault e.file_system e.polarity e.first body f → f.kind ≢ kinds.Fixed → UnfixStops b f
    stops_there f here kind = inr (e, with_body body, body, in_place, here, kind)

-- if cells tile the body of a volume, the volume is its own unfixed volume
pub unchanged : (b : List ℕ) (e : Extent) (cells : List CellForm) → BeginsTiled e cells b → IsUnfixed b b
unchanged b e cells has =
    let long : e.length ≡ e.first + (e.length - e.first) = omega (arith, (first_lies b has.head e has.begins).1) in
    let part : drop e.first (take e.length b) ≡ field e.first (e.length - e.first) b =
    ap (λ (n : ℕ). drop e.first (take n b)) long ∙ drop-take e.first (e.length - e.first) b in
    rw (same_body b has.head e has.begins) at (is_unfixed b has.head e has.begins _ [] refl cells (rw part at has.tiles))
