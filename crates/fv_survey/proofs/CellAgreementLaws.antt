-- The tolerant reading of a body agrees with the strict reading. The steps:
-- 1. At each place, the piece is a cell and has no findings, or the strict reading has a first fault there and the
--    piece has findings (`place_decided`).
-- 2. So all bytes of a body are read as cells, or the body has a first fault and not all pieces are without findings
--    (`body_read`).
-- 3. Cells that tile a body are what it is read as (`tiled_read`), and its pieces are these cells (`tiled_pieces`). If
--    no piece has findings, cells tile the body (`clean_tiled`).
use Rattle.std.proofs.Common.{◌≡◌, ◌≤◌, ◌<◌, ◌⊎◌, ◌+◌, ◌%◌, ◌==◌, ℕ, [], ◌∷◌, Bool, true, false, if◌then◌else◌}
use Rattle.std.specs.List.{AllByRecursion}
use Rattle.fv_base.proofs.Laws.{List, length, take, drop, refl, sym, ap, ◌∙◌, subst, arith, inl, inr, zero, suc, take_all, length-drop}
use Rattle.fv_base.proofs.Laws.{take-add, drop-drop, take-append-drop, length-take-le, option_map, slice_index, nat_tests}
use Rattle.fv_base.proofs.Laws.{AllAre, AllHold, IsFirstFault, First, Option, None, Some, all_are, all_are-true, all-all_are, all_hold}
use Rattle.fv_base.proofs.Laws.{erased_byte}
use Rattle.fv_base.proofs.Laws.{first_is, none_fails, none_faulty, outer_fault, up_is_not_down}
use Rattle.fv_base.specs.inner.Verdicts.{first_fault}
use Rattle.fv_base.specs.declared.fault.Fault.{Fault}
use Rattle.fv_base.specs.declared.fault.FaultKind.TheVariants as faults
use Rattle.fv_base.specs.declared.flash.FileSystem.{FileSystem}
use Rattle.fv_base.specs.declared.flash.Polarity.{Polarity}
use Rattle.fv_file.proofs.Laws.{cell_stands, cells_few, none_after, only_one}
use Rattle.fv_file.specs.Words.{CellFault, CellForm, Valid, Pad, Dead, Stub, Free, IsCell, Tiles, cell_checks, cell_len}
use Rattle.fv_file.specs.Words.{file_header_len_at, head_in, is_free, leading_count, offset_of, pad_kind}
use Rattle.fv_file.specs.Words.{payload_at, state_checks, state_of}
use Rattle.fv_file.specs.declared.head.FileHead.{FileHead}
use Rattle.fv_file.specs.declared.state.FileState.{FileState}
use Rattle.fv_file.specs.declared.state.FileState.TheVariants as states
use Rattle.fv_file.specs.inner.CellVerdicts.{StateSort, cell_in, cell_of, sort_of}
use Rattle.fv_file.specs.inner.CellVerdicts as kept
use Rattle.fv_tree.specs.Words.{Pairwise}
use Rattle.fv_survey.specs.inner.CleanParts.{pieces_of, pieces_up_to}
use Rattle.fv_survey.proofs.CellPieceLaws.{sound_agrees}
use Rattle.fv_survey.proofs.PieceBoundLaws.{piece_lies}
use Rattle.fv_survey.proofs.PieceFindingLaws.{none_strict}
use Rattle.fv_survey.proofs.StrictPieceLaws.{strict_is, header_used}
use Rattle.fv_survey.specs.Words.{HasData, IsCellPiece, ReadAs, file_piece, is_stub_state, may_be_header, none, piece_by, plain_piece}
use Rattle.fv_survey.specs.Words.{sizes_by, sound_piece, space_piece, strict_kind, system_by}
use Rattle.fv_survey.specs.declared.pieces.Layout.{Layout}
use Rattle.fv_survey.specs.declared.pieces.Piece.{Piece}
use Rattle.fv_survey.specs.declared.pieces.Sort.TheVariants as sorts
use Rattle.fv_survey.specs.inner.Pieces.{IsPiece}

-- ---- the piece at one place

-- the checks of a cell do not depend on its offset
moved_state : (s : FileSystem) (at : ℕ) (r : List ℕ) (o : Option FileState) → AllHold (state_checks o s 0 r)
    → AllHold (state_checks o s at r)
moved_state s at r None h = h
moved_state s at r (Some states.Free) h = h
moved_state s at r (Some states.Construction) h = h
moved_state s at r (Some states.HeaderInvalid) h = h
moved_state s at r (Some states.HeaderValid) h = h
moved_state s at r (Some states.Deleted) h = h
moved_state s at r (Some states.DataValid) h = h
moved_state s at r (Some states.Marked) h = h

moved : (s : FileSystem) (p : Polarity) (at : ℕ) (r : List ℕ) → AllHold (cell_checks s p 0 r) → AllHold (cell_checks s p at r)
moved s p at r (front, more) = (front, moved_state s at r (state_of p (slice_index r 23)) more)

back_state : (s : FileSystem) (at : ℕ) (r : List ℕ) (o : Option FileState) → AllHold (state_checks o s at r)
    → AllHold (state_checks o s 0 r)
back_state s at r None h = h
back_state s at r (Some states.Free) h = h
back_state s at r (Some states.Construction) h = h
back_state s at r (Some states.HeaderInvalid) h = h
back_state s at r (Some states.HeaderValid) h = h
back_state s at r (Some states.Deleted) h = h
back_state s at r (Some states.DataValid) h = h
back_state s at r (Some states.Marked) h = h

back : (s : FileSystem) (p : Polarity) (at : ℕ) (r : List ℕ) → AllHold (cell_checks s p at r) → AllHold (cell_checks s p 0 r)
back s p at r (front, more) = (front, back_state s at r (state_of p (slice_index r 23)) more)

-- a cell that is read at another offset is the same piece, and has its data
placed_of : (k : StateSort) (at : ℕ) (head : FileHead) (payload : List ℕ) (piece : Piece) → IsCellPiece (cell_of k 0 head payload) piece
    → IsCellPiece (cell_of k at head payload) piece
placed_of kept.Unfinished at head payload piece = λ is. is
placed_of kept.Dead at head payload piece = λ is. is
placed_of _ at head payload piece = go (head.kind == pad_kind) where
  go : (t : Bool) → IsCellPiece (if t then Pad 0 head payload else Valid 0 head payload) piece
      → IsCellPiece (if t then Pad at head payload else Valid at head payload) piece
  go true is = is
  go false is = is

placed : (o : Option FileState) (at : ℕ) (r : List ℕ) (piece : Piece) → IsCellPiece (cell_in o 0 r) piece
    → IsCellPiece (cell_in o at r) piece
placed None at r piece is = is
placed (Some st) at r piece is = placed_of (sort_of st) at (head_in st r) (payload_at r) piece is

data_of : (k : StateSort) (at : ℕ) (st : FileState) (r : List ℕ) → HasData (cell_of k at (head_in st r) (payload_at r)) r
data_of kept.Unfinished at st r = tt
data_of kept.Dead at st r = tt
data_of _ at st r = go (slice_index r 18 == pad_kind) where
  go : (t : Bool) → HasData (if t then Pad at (head_in st r) (payload_at r) else Valid at (head_in st r) (payload_at r)) r
  go true = refl
  go false = refl

data_is : (o : Option FileState) (at : ℕ) (r : List ℕ) → HasData (cell_in o at r) r
data_is None at r = tt
data_is (Some st) at r = data_of (sort_of st) at st r

-- the piece of a cell has as many bytes as the cell
pub piece_span : (c : CellForm) (piece : Piece) → IsCellPiece c piece → piece.span ≡ cell_len c
piece_span (Valid at head payload) piece is = is.1.2
piece_span (Pad at head payload) piece is = is.1.2
piece_span (Dead at len state) piece is = is.1
piece_span (Stub at len) piece is = is.1
piece_span (Free at len) piece is = is.1

-- a sound piece has no findings
sound_clean : (layout : Layout) (r : List ℕ) → (sound_piece layout r).findings ≡ none
unfolding sound_piece plain_piece file_piece
sound_clean layout r = go (is_stub_state (state_of layout.polarity (slice_index r 23))) where
  go : (t : Bool) → (if t then plain_piece sorts.Stub (file_header_len_at r) none
      else file_piece layout (sizes_by layout.files r) none r).findings ≡ none
  go true = refl
  go false = refl

-- the piece of a cell of free space
free_piece : (n : ℕ) (piece : Piece) → piece ≡ plain_piece sorts.Free n none
    → ((piece.sort ≡ sorts.Free) × (piece.span ≡ n) × (piece.is_marked ≡ false)) × (piece.findings ≡ none)
unfolding plain_piece
free_piece n piece is =
    ((ap (λ (q : Piece). q.sort) is, ap (λ (q : Piece). q.span) is, ap (λ (q : Piece). q.is_marked) is), ap (λ (q : Piece). q.findings) is)

module _ (layout : Layout) (at : ℕ) (r : List ℕ) where
  -- the piece at the start of r is this cell
  record Read : Type 0 where
    cell : CellForm
    place : offset_of cell ≡ at
    is : IsCell (system_by layout.files) layout.polarity cell (take (piece_by layout r).span r)
    piece : IsCellPiece cell (piece_by layout r)
    clean : (piece_by layout r).findings ≡ none
    payload : HasData cell r
    last : is_free cell ≡ true → (piece_by layout r).span ≡ length r

  -- the strict reading has a first fault at the start of r, and the piece has findings
  record Broken : Type 0 where
    fault : Fault
    used : AllAre (erased_byte layout.polarity) r → ⊥
    first : IsFirstFault (cell_checks (system_by layout.files) layout.polarity at r) fault
    found : (piece_by layout r).findings ≡ none → ⊥

  -- if the strict reading has a first fault, the piece has findings
  is_broken : (f : Fault) → (AllAre (erased_byte layout.polarity) r → ⊥)
      → IsFirstFault (cell_checks (system_by layout.files) layout.polarity at r) f → Broken
  is_broken f used first = record {
    fault = f;
    used = used;
    first = first;
    found = λ clean. elim (none_strict layout r clean) [
      | inl all ↦ used all
      | inr holds ↦ none_fails First (cell_checks (system_by layout.files) layout.polarity at r) f first
          (moved (system_by layout.files) layout.polarity at r holds)
    ];
  }

  -- if all checks of a cell hold, the strict reading finds no fault at offset 0
  kind_is : first_fault (cell_checks (system_by layout.files) layout.polarity at r) ≡ None → strict_kind layout r ≡ None
  kind_is none =
      strict_is layout r ∙ ap (option_map (λ (f : Fault). f.kind)) (none_faulty (cell_checks (system_by layout.files) layout.polarity 0 r)
      (back (system_by layout.files) layout.polarity at r (all_hold (cell_checks (system_by layout.files) layout.polarity at r) none)))

  headed_is : may_be_header layout.polarity r ≡ true → strict_kind layout r ≡ None → piece_by layout r ≡ sound_piece layout r
  unfolding piece_by
  headed_is header kind = rw (header, kind) refl

  free_is : may_be_header layout.polarity r ≡ false → all_are (erased_byte layout.polarity) r ≡ true
      → piece_by layout r ≡ plain_piece sorts.Free (length r) none
  unfolding piece_by space_piece
  free_is headless erased = rw (headless, erased) refl

  -- where a header may begin and the strict reading has no fault, the piece is the strict cell
  sound_read : length r % 8 ≡ 0 → may_be_header layout.polarity r ≡ true
      → first_fault (cell_checks (system_by layout.files) layout.polarity at r) ≡ None → Read
  sound_read in_eights header none =
      let state : Option FileState = state_of layout.polarity (slice_index r 23) in
      let stands = cell_stands (system_by layout.files) layout.polarity at r in_eights none in
      let piece : IsCellPiece (cell_in state at r) (piece_by layout r) =
      placed state at r (piece_by layout r) (sound_agrees layout r header (kind_is none)) in
      let span : (piece_by layout r).span ≡ cell_len (cell_in state at r) = piece_span (cell_in state at r) (piece_by layout r) piece in
      record {
        cell = cell_in state at r;
        place = stands.place;
        is = subst (λ (n : ℕ). IsCell (system_by layout.files) layout.polarity (cell_in state at r) (take n r)) (sym span) stands.cell;
        piece = piece;
        clean = ap (λ (q : Piece). q.findings) (headed_is header (kind_is none)) ∙ sound_clean layout r;
        payload = data_is state at r;
        last = λ free. absurd (up_is_not_down _ free stands.not_free);
      }

  -- all bytes are erased
  free_read : 0 < length r → may_be_header layout.polarity r ≡ false → all_are (erased_byte layout.polarity) r ≡ true → Read
  free_read some headless erased =
      let piece = free_piece (length r) (piece_by layout r) (free_is headless erased) in
      record {
        cell = Free at (length r);
        place = refl;
        is = subst (λ (n : ℕ). IsCell (system_by layout.files) layout.polarity (Free at (length r)) (take n r)) (sym piece.0.1)
            (subst (IsCell (system_by layout.files) layout.polarity (Free at (length r))) (sym (take_all (length r) r (omega arith)))
            (some, all_are-true (erased_byte layout.polarity) r erased, refl));
        piece = piece.0;
        clean = piece.1;
        payload = tt;
        last = λ free. piece.0.1;
      }

  -- the piece is a cell and has no findings, or the strict reading has a first fault and the piece has findings
  place_decided : 0 < length r → length r % 8 ≡ 0 → Read ⊎ Broken
  place_decided some in_eights = by_header (may_be_header layout.polarity r) refl where
    by_fault : may_be_header layout.polarity r ≡ true → (o : Option Fault)
        → first_fault (cell_checks (system_by layout.files) layout.polarity at r) ≡ o → Read ⊎ Broken
    by_fault header None none = inl (sound_read in_eights header none)
    by_fault header (Some f) is =
        inr (is_broken f (header_used layout.polarity r header) (first_is (cell_checks (system_by layout.files) layout.polarity at r) f is))

    by_bytes : may_be_header layout.polarity r ≡ false → (t : Bool) → all_are (erased_byte layout.polarity) r ≡ t → Read ⊎ Broken
    by_bytes headless true erased = inl (free_read some headless erased)
    by_bytes headless false used =
        inr (is_broken (outer_fault faults.FreeSpace (at + leading_count (erased_byte layout.polarity) r))
        (λ all. up_is_not_down _ (all-all_are (erased_byte layout.polarity) r all) used)
        (first_is (cell_checks (system_by layout.files) layout.polarity at r) _ (rw headless refl)))

    by_header : (t : Bool) → may_be_header layout.polarity r ≡ t → Read ⊎ Broken
    by_header true header = by_fault header (first_fault (cell_checks (system_by layout.files) layout.polarity at r)) refl
    by_header false headless = by_bytes headless (all_are (erased_byte layout.polarity) r) refl

-- ---- all pieces

-- all pieces have no findings
abbrev pub AllClean : List Piece → Type 0
AllClean pieces = AllByRecursion (λ (q : Piece). q.findings ≡ none) pieces

module _ (layout : Layout) where
  abbrev System : FileSystem
  System = system_by layout.files

  -- these cells tile r and are read as pieces, or r has a first fault, and a piece of r has findings
  abbrev Decided : ℕ → ℕ → List ℕ → Type 0
  Decided n at r =
      ((cells : List CellForm) × Tiles System layout.polarity at cells r × ReadAs layout at cells r)
      ⊎ ((f : Fault) × CellFault First System layout.polarity at r f × (AllClean (pieces_up_to layout n r) → ⊥))

  no_cells : (at : ℕ) (cs : List CellForm) (b : List ℕ) → Tiles System layout.polarity at cs b → length b ≡ 0 → cs ≡ []
  no_cells at [] b tiles none = refl
  no_cells at (c ∷ cs) b tiles none = absurd (omega (arith, cells_few System layout.polarity at (c ∷ cs) b tiles, none))

  -- one more piece before others
  more_pieces : (n : ℕ) (r : List ℕ) → 0 < length r
      → pieces_up_to layout (suc n) r ≡ piece_by layout r ∷ pieces_up_to layout n (drop (piece_by layout r).span r)
  more_pieces n r some = let used : (length r == 0) ≡ false = grind (arith, nat_tests, some) in rw used refl

  -- a cell before cells that are read
  cells_more : (at : ℕ) (r : List ℕ) (h : Read layout at r) (cs : List CellForm) → 0 < length r → IsPiece (length r) (piece_by layout r)
      → Tiles System layout.polarity (at + (piece_by layout r).span) cs (drop (piece_by layout r).span r)
      → ReadAs layout (at + (piece_by layout r).span) cs (drop (piece_by layout r).span r)
      → Tiles System layout.polarity at (h.cell ∷ cs) r × ReadAs layout at (h.cell ∷ cs) r
  cells_more at r h cs some lies tiles read =
      let n : ℕ = (piece_by layout r).span in
      let long : length (take n r) ≡ n = length-take-le n r lies.within in
      let next : Tiles System layout.polarity (at + length (take n r)) cs (drop n r) =
      subst (λ (k : ℕ). Tiles System layout.polarity (at + k) cs (drop n r)) (sym long) tiles in
      let last : is_free h.cell ≡ true → cs ≡ [] =
      λ free. no_cells (at + n) cs (drop n r) tiles (omega (arith, length-drop n r, h.last free)) in (
        (take n r, drop n r, sym (take-append-drop n r), h.is, h.place, last, next),
        (some, h.place, h.piece, h.clean, h.payload, read),
      )

  -- a first fault after a cell
  fault_more : (at : ℕ) (r : List ℕ) (f : Fault) (h : Read layout at r) → IsPiece (length r) (piece_by layout r)
      → CellFault First System layout.polarity (at + (piece_by layout r).span) (drop (piece_by layout r).span r) f
      → CellFault First System layout.polarity at r f
  fault_more at r f h lies k =
      let n : ℕ = (piece_by layout r).span in
      let long : length (take n r) ≡ n = length-take-le n r lies.within in
      let inside : n + k.at < length r = omega (arith, k.inside, length-drop n r, lies.within) in
      let behind : drop k.at (drop n r) ≡ drop (n + k.at) r = drop-drop k.at n r in
      let used : is_free h.cell ≡ false = not_true (is_free h.cell) (λ free. omega (arith, h.last free, inside)) in
      record {
        cells = h.cell ∷ k.cells;
        at = n + k.at;
        tiled = (
          take n r,
          take k.at (drop n r),
          take-add n k.at r,
          h.is,
          h.place,
          λ free. absurd (up_is_not_down _ free used),
          subst (λ (j : ℕ). Tiles System layout.polarity (at + j) k.cells (take k.at (drop n r))) (sym long) k.tiled,
        );
        none_free = (used, k.none_free);
        inside = inside;
        not_erased = subst (λ (b : List ℕ). AllAre (erased_byte layout.polarity) b → ⊥) behind k.not_erased;
        fails = subst (λ (b : List ℕ). IsFirstFault (cell_checks System layout.polarity (at + (n + k.at)) b) f) behind
            (subst (λ (j : ℕ). IsFirstFault (cell_checks System layout.polarity j (drop k.at (drop n r))) f) (omega arith) k.fails);
      }
    where
      not_true : (t : Bool) → (t ≡ true → ⊥) → t ≡ false
      not_true true never = absurd (never refl)
      not_true false _ = refl

  -- the number of bytes of the first piece
  abbrev span_of : List ℕ → ℕ
  span_of r = (piece_by layout r).span

  -- cells tile a body and are read as pieces, or the body has a first fault, and a piece has findings
  body_read : (n at : ℕ) (r : List ℕ) → length r ≤ n → length r % 8 ≡ 0 → Decided n at r
  body_read n at [] few in_eights = inl ([], refl, refl)
  body_read zero at (a ∷ r) few in_eights = absurd (omega (arith, few))
  body_read (suc n) at (a ∷ r) few in_eights =
      go (place_decided layout at (a ∷ r) some in_eights)
      (body_read n (at + span_of (a ∷ r)) (drop (span_of (a ∷ r)) (a ∷ r))
      (omega (arith, length-drop (span_of (a ∷ r)) (a ∷ r), lies.some, few))
      (omega (arith, length-drop (span_of (a ∷ r)) (a ∷ r), lies.within, lies.multiple, in_eights)))
    where
      some : 0 < length (a ∷ r)
      some = omega arith

      lies : IsPiece (length (a ∷ r)) (piece_by layout (a ∷ r))
      lies = piece_lies layout (a ∷ r) some in_eights

      first_fails : Broken layout at (a ∷ r) → Decided (suc n) at (a ∷ r)
      first_fails k = inr (
        k.fault,
        record {
          cells = [];
          at = 0;
          tiled = refl;
          none_free = tt;
          inside = some;
          not_erased = k.used;
          fails = subst (λ (j : ℕ). IsFirstFault (cell_checks System layout.polarity j (a ∷ r)) k.fault) (omega arith) k.first;
        },
        λ clean. k.found (subst AllClean (more_pieces n (a ∷ r) some) clean).0,
      )

      go : Read layout at (a ∷ r) ⊎ Broken layout at (a ∷ r) → Decided n (at + span_of (a ∷ r)) (drop (span_of (a ∷ r)) (a ∷ r))
          → Decided (suc n) at (a ∷ r)
      go (inr k) next = first_fails k
      go (inl h) (inl (cs, tiles, read)) =
          let more = cells_more at (a ∷ r) h cs some lies tiles read in inl (h.cell ∷ cs, more.0, more.1)
      go (inl h) (inr (f, fault, found)) =
          inr (f, fault_more at (a ∷ r) f h lies fault, λ clean. found (subst AllClean (more_pieces n (a ∷ r) some) clean).1)

  -- cells that tile a body are what the body is read as
  pub tiled_read : (at : ℕ) (cells : List CellForm) (r : List ℕ) → length r % 8 ≡ 0 → Tiles System layout.polarity at cells r
      → ReadAs layout at cells r
  tiled_read at cells r in_eights tiles = elim (body_read (length r) at r (omega arith) in_eights) [
    | inl (cs, tiled, read) ↦ subst (λ (ds : List CellForm). ReadAs layout at ds r) (only_one System layout.polarity at r cells cs tiles tiled) read
    | inr (f, fault, found) ↦ absurd (none_after First System layout.polarity at r f cells fault tiles)
  ]

  -- if no piece of a body has findings, cells tile the body
  pub clean_tiled : (at : ℕ) (r : List ℕ) → length r % 8 ≡ 0 → AllClean (pieces_of layout r)
      → (cells : List CellForm) × Tiles System layout.polarity at cells r × ReadAs layout at cells r
  clean_tiled at r in_eights clean = elim (body_read (length r) at r (omega arith) in_eights) [
    | inl found ↦ found
    | inr (f, fault, broken) ↦ absurd (broken clean)
  ]

  -- the pieces of a body that is read as cells are these cells, and have no findings
  pub tiled_pieces : (n at : ℕ) (cells : List CellForm) (r : List ℕ) → length r ≤ n → length r % 8 ≡ 0 → ReadAs layout at cells r
      → Pairwise IsCellPiece cells (pieces_up_to layout n r) × AllClean (pieces_up_to layout n r)
  tiled_pieces n at [] r few in_eights none =
      subst (λ (b : List ℕ). Pairwise IsCellPiece [] (pieces_up_to layout n b) × AllClean (pieces_up_to layout n b)) (sym none) (empty n)
    where
      empty : (n : ℕ) → Pairwise IsCellPiece [] (pieces_up_to layout n []) × AllClean (pieces_up_to layout n [])
      empty zero = (tt, tt)
      empty (suc n) = (tt, tt)
  tiled_pieces zero at (c ∷ cs) r few in_eights read = absurd (omega (arith, few, read.0))
  tiled_pieces (suc n) at (c ∷ cs) r few in_eights (some, place, piece, clean, payload, read) =
      let span : ℕ = (piece_by layout r).span in
      let lies = piece_lies layout r some in_eights in
      let rest = tiled_pieces n (at + span) cs (drop span r) (omega (arith, length-drop span r, lies.some, few))
      (omega (arith, length-drop span r, lies.within, lies.multiple, in_eights)) read in
      subst (λ (pieces : List Piece). Pairwise IsCellPiece (c ∷ cs) pieces × AllClean pieces) (sym (more_pieces n r some))
      ((piece, rest.0), (clean, rest.1))
