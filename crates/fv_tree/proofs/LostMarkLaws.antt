-- Exactly the valid fixed files of a volume lose their marks, and volumes that differ in these marks only have one copy
-- without them. The steps:
-- 1. The body of the copy is the new body, and the bytes after the volume are unchanged (`body_is`, `rest_kept`).
-- 2. Each cell of the body has lost its mark (`marks_lost`), so volumes that differ in marks only have one copy
--    (`one_copy`), and volumes that have one copy differ in marks only (`differ_only`).
-- 3. Bytes have an unfixed copy, or a fault stops this (`copy_decided`).
use Rattle.std.proofs.Common.{◌≡◌, ℕ, ◌+◌, ◌-◌, ◌%◌, ◌++◌, ◌⊎◌, List, length, take, drop, sym, ap, ◌∙◌, subst, arith, append_assoc, inl, inr}
use Rattle.fv_base.proofs.Laws.{IsBytes, bytes_drop, bytes_take, drop_at, drop-take, length-append, length-drop, length-take-le}
use Rattle.fv_base.specs.declared.fault.Fault.{Fault}
use Rattle.fv_file.specs.Words.{CellForm, TilesUnmarked}
use Rattle.fv_file.proofs.Laws.{body_unmarked, differ_of, length-unmarks, lost_of, one_lost, other_lost}
use Rattle.fv_head.specs.Words.{HeadFields, BeginsVolume}
use Rattle.fv_head.specs.declared.extent.Extent.{Extent}
use Rattle.fv_head.proofs.Laws.{first_lies, front_decided, one_front}
use Rattle.fv_tree.specs.Words.{Unfixes, IsUnfixed, UnfixStops, BeginsTiled, body_in_volume, LosesMarks, DifferInMarksOnly}
use Rattle.fv_tree.proofs.FixedMarkLaws.{body_tiled, header_kept, is_unfixed, kept, stops_there}

-- ---- 1. the parts of the copy

-- the body of a volume has a multiple of 8 bytes
body_in_eights : (b : List ℕ) (h : HeadFields) (e : Extent) → BeginsVolume h e b → length (body_in_volume e b) % 8 ≡ 0
body_in_eights b h e begins =
    let lies = first_lies b h e begins in
    let size : length (body_in_volume e b) ≡ e.length - e.first =
    length-take-le (e.length - e.first) (drop e.first b) (omega (arith, length-drop e.first b, begins.is_within, lies.1)) in
    omega (arith, size, lies.0, lies.1, lies.2)

body_is : (b o body : List ℕ) (e : Extent) → Unfixes e b o body → body_in_volume e o ≡ body
body_is b o body e u =
    let long : e.length ≡ e.first + (e.length - e.first) = omega (arith, (first_lies b u.head e u.begins).1) in
    sym (ap (λ (n : ℕ). drop e.first (take n o)) long ∙ drop-take e.first (e.length - e.first) o) ∙ (kept b o body e u).body_is

rest_kept : (b o body : List ℕ) (e : Extent) → Unfixes e b o body → drop e.length o ≡ drop e.length b
rest_kept b o body e u =
    let lies = first_lies b u.head e u.begins in
    let size : length body ≡ e.length - e.first = length-unmarks _ _ _ _ _ _ u.marks
    ∙ length-take-le (e.length - e.first) (drop e.first b) (omega (arith, length-drop e.first b, u.begins.is_within, lies.1)) in
    let before : length (take e.first b) ≡ e.first = length-take-le e.first b (omega (arith, u.begins.is_within, lies.1)) in
    let front : length (take e.first b ++ body) ≡ e.length = omega (arith, length-append (take e.first b) body, before, size, lies.1) in
    ap (drop e.length) (u.text ∙ sym (append_assoc (take e.first b) body (drop e.length b)))
    ∙ drop_at (take e.first b ++ body) (drop e.length b) e.length front

-- ---- 2. each cell

parts_lost : (b o body : List ℕ) (e : Extent) (cells : List CellForm) → Unfixes e b o body → BeginsTiled e cells o
    → TilesUnmarked e.file_system e.polarity e.first cells (body_in_volume e b) body
parts_lost b o body e cells u tiled =
    lost_of e.file_system e.polarity e.first (body_in_volume e b) (body_in_eights b u.head e u.begins) u.places body cells u.marks
    (body_tiled b o body e cells u tiled)

pub marks_lost : (b o : List ℕ) → IsUnfixed b o → (e : Extent) × (cells : List CellForm) × BeginsTiled e cells o × LosesMarks e cells b o
marks_lost b o (e, body, u, (cells, tiled)) =
    let k = kept b o body e u in (
      e,
      cells,
      tiled,
      record {
        length_is = k.length_is;
        front = k.prefix;
        rest = rest_kept b o body e u;
        parts = subst (TilesUnmarked e.file_system e.polarity e.first cells (body_in_volume e b)) (sym (body_is b o body e u))
            (parts_lost b o body e cells u tiled);
      },
    )

-- volumes of one extent that differ in marks only have one copy
same_copy : (a b o x body other : List ℕ) (e : Extent) (cells ds : List CellForm) → Unfixes e a o body → Unfixes e b x other
    → BeginsTiled e cells o → BeginsTiled e ds x → DifferInMarksOnly e cells a b → x ≡ o
same_copy a b o x body other e cells ds u v tiled tiled' differ =
    let same : other ≡ body =
    one_lost e.file_system e.polarity e.first cells ds (body_in_volume e b) body other
    (other_lost e.file_system e.polarity e.first cells (body_in_volume e a) (body_in_volume e b) body (parts_lost a o body e cells u tiled) differ.parts)
    (parts_lost b x other e ds v tiled') in
    v.text ∙ ap (λ (l : List ℕ). l ++ (other ++ drop e.length b)) (sym differ.front)
    ∙ ap (λ (l : List ℕ). take e.first a ++ (l ++ drop e.length b)) same
    ∙ ap (λ (l : List ℕ). take e.first a ++ (body ++ l)) (sym differ.rest) ∙ sym u.text

pub one_copy : (a b o x : List ℕ) (e : Extent) (cells : List CellForm) → IsUnfixed a o → IsUnfixed b x → BeginsTiled e cells o
    → DifferInMarksOnly e cells a b → x ≡ o
one_copy a b o x e cells (f, body, u, (cs, tiled')) (g, other, v, (ds, tiled'')) tiled differ =
    let first : f ≡ e = (one_front o tiled'.head tiled.head f e tiled'.begins tiled.begins).1 in
    let u' : Unfixes e a o body = subst (λ (y : Extent). Unfixes y a o body) first u in
    let begins : BeginsVolume u'.head e b = header_kept a b u'.head e u'.begins (sym differ.length_is) (sym differ.front) in
    let second : g ≡ e = (one_front b v.head u'.head g e v.begins begins).1 in
    same_copy a b o x body other e cells ds u' (subst (λ (y : Extent). Unfixes y b x other) second v) tiled
    (subst (λ (y : Extent). BeginsTiled y ds x) second tiled'') differ

-- volumes of one extent that have one copy differ in marks only
differ_there : (a b o body other : List ℕ) (e : Extent) (cells : List CellForm) → IsBytes a → IsBytes b → Unfixes e a o body
    → Unfixes e b o other → BeginsTiled e cells o → DifferInMarksOnly e cells a b
differ_there a b o body other e cells small small' u v tiled =
    let k = kept a o body e u in
    let m = kept b o other e v in
    let bodies : other ≡ body = sym (body_is b o other e v) ∙ body_is a o body e u in
    let n : ℕ = e.length - e.first in
    record {
      length_is = sym k.length_is ∙ m.length_is;
      front = sym k.prefix ∙ m.prefix;
      rest = sym (rest_kept a o body e u) ∙ rest_kept b o other e v;
      parts = differ_of e.file_system e.polarity e.first cells (body_in_volume e a) (body_in_volume e b) body
          (bytes_take n (drop e.first a) (bytes_drop e.first a small)) (bytes_take n (drop e.first b) (bytes_drop e.first b small'))
          (parts_lost a o body e cells u tiled)
          (subst (TilesUnmarked e.file_system e.polarity e.first cells (body_in_volume e b)) bodies (parts_lost b o other e cells v tiled));
    }

pub differ_only : (a b o : List ℕ) → IsBytes a → IsBytes b → IsUnfixed a o → IsUnfixed b o
    → (e : Extent) × (cells : List CellForm) × BeginsTiled e cells o × DifferInMarksOnly e cells a b
differ_only a b o small small' (e, body, u, (cells, tiled)) (g, other, v, (ds, tiled')) =
    let one : g ≡ e = (one_front o tiled'.head tiled.head g e tiled'.begins tiled.begins).1 in
    (e, cells, tiled, differ_there a b o body other e cells small small' u (subst (λ (y : Extent). Unfixes y b o other) one v) tiled)

-- ---- 3. a copy or a fault

pub copy_decided : (b : List ℕ) → IsBytes b → ((o : List ℕ) × IsUnfixed b o) ⊎ ((f : Fault) × UnfixStops b f)
copy_decided b small = elim (front_decided b small) [
  | inr (f, first) ↦ inr (f, inl first)
  | inl (e, h, begins) ↦ elim (body_unmarked e.file_system e.polarity e.first (body_in_volume e b) (body_in_eights b h e begins)) [
    | inl (places, body, marks, (cells, tiles)) ↦ inl (_, is_unfixed b h e begins body places marks cells tiles)
    | inr (f, (places, body, marks, here, other)) ↦ inr (f, stops_there b h e begins body places marks f here other)
  ]
]
