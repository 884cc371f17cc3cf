-- Where the strict reading finds a cell, the piece is this cell (`sound_agrees`). So both readings
-- give a file the same header and the same size.
use Rattle.std.proofs.Common.{◌≡◌, ◌<◌, ◌+◌, ◌%◌, ◌==◌, ◌&&◌, ◌||◌, ℕ, if◌then◌else◌, Bool, true, false}
use Rattle.fv_base.proofs.Laws.{AllHold, List, None, Option, Some, ap, arith, common_steps, length, nat_le, nat_tests, not, refl, slice_index, up_to_8}
use Rattle.fv_base.proofs.Laws.{and_split, ◌∙◌}
use Rattle.fv_base.specs.declared.flash.Polarity.{Polarity}
use Rattle.fv_file.specs.Words.{allows_large, bits_of, file_checks, file_header_len_at, file_size_at}
use Rattle.fv_file.specs.Words.{head_in, is_alive, is_large, pad_kind, payload_at, state_checks, state_in, state_of}
use Rattle.fv_file.specs.Words.{Dead, Pad, Valid}
use Rattle.fv_file.specs.inner.CellVerdicts.{cell_in}
use Rattle.fv_file.specs.declared.state.FileState.{FileState}
use Rattle.fv_file.specs.declared.state.FileState.TheVariants as states
use Rattle.fv_survey.proofs.StrictPieceLaws.{not_free, same_sizes, strict_holds}
use Rattle.fv_survey.specs.Words.{HasHead, IsCellPiece, counted_state, file_piece, is_ffs1, is_stub_state, is_tailed, may_be_header, none}
use Rattle.fv_survey.specs.Words.{piece_by, plain_piece, shows_mark, sizes_by, sort_by, sound_piece, strict_kind, system_by}
use Rattle.fv_survey.specs.declared.pieces.Layout.{Layout}
use Rattle.fv_survey.specs.declared.pieces.Piece.{Piece}
use Rattle.fv_survey.specs.declared.pieces.Sizes.{Sizes}
use Rattle.fv_survey.specs.declared.pieces.Sort.TheVariants as sorts
use Rattle.fv_survey.specs.declared.systems.Files.{Files}

-- a State byte that shows a state has none of the bits 0x40 and 0x80, so all of its bits count
shown_small : (n : ℕ) (st : FileState) → state_in n ≡ Some st → n < 64
shown_small n st is = grind (arith, nat_tests, is)

all_count : (p : Polarity) (b : ℕ) (st : FileState) → state_of p b ≡ Some st → counted_state p b ≡ Some st
unfolding state_of counted_state
all_count p b st is =
    let small : bits_of p b < 64 = shown_small (bits_of p b) st is in
    let same : bits_of p b % 64 ≡ bits_of p b = omega arith in
    ap state_in same ∙ is

-- a strict file has no tail
no_tail : (f : Files) (large : Bool) (t : Bool) → (not large || allows_large (system_by f)) ≡ true → (is_ffs1 f && (large && t)) ≡ false
no_tail f large t allowed = grind (arith, common_steps) steps 150000

tail_off : (f : Files) (sizes : Sizes) (r : List ℕ) → (not (is_large (slice_index r 19)) || allows_large (system_by f)) ≡ true
    → is_tailed f sizes r ≡ false
unfolding is_tailed
tail_off f sizes r allowed = no_tail f (is_large (slice_index r 19)) (nat_le (sizes.header + 2) sizes.size) allowed

and_no : (a : Bool) → (a && false) ≡ false
and_no true = refl
and_no false = refl

and_yes : (a : Bool) → (a && true) ≡ a
and_yes true = refl
and_yes false = refl

module _ (layout : Layout) (r : List ℕ) where
  -- the piece of a file that the strict reading reads
  abbrev Read : Piece
  Read = file_piece layout (sizes_by layout.files r) none r

  -- the piece has the header of the file, if the checks of a file hold
  strict_head : (st : FileState) (alive : Bool) → AllHold (file_checks (system_by layout.files) alive 0 r) → HasHead (head_in st r) Read
  unfolding sizes_by file_piece
  strict_head st alive (allowed, more) =
      let same = same_sizes layout.files (is_large (slice_index r 19)) r refl allowed in
      let tail = tail_off layout.files (sizes_by layout.files r) r allowed in
      (same.0, rw tail same.1, rw same.1 refl, refl, refl)

  module _ (st : FileState) (shows : state_of layout.polarity (slice_index r 23) ≡ Some st) where
    counts : counted_state layout.polarity (slice_index r 23) ≡ Some st
    counts = all_count layout.polarity (slice_index r 23) st shows

    read_sort : Read.sort ≡ (if is_alive st then (if slice_index r 18 == pad_kind then sorts.Pad else sorts.File) else sorts.Dead)
    unfolding file_piece sort_by
    read_sort = rw counts refl

    read_mark : Read.is_marked ≡ (shows_mark (Some st) && not (slice_index r 18 == pad_kind))
    unfolding file_piece
    read_mark = rw counts refl

    dead_agrees : is_alive st ≡ false → shows_mark (Some st) ≡ false → HasHead (head_in st r) Read
        → IsCellPiece (Dead 0 (up_to_8 (file_size_at r)) st) Read
    dead_agrees dead bare head = (rw dead at read_sort, head.2, rw bare at read_mark)

    alive_agrees : is_alive st ≡ true → HasHead (head_in st r) Read
        → IsCellPiece (if slice_index r 18 == pad_kind then Pad 0 (head_in st r) (payload_at r) else Valid 0 (head_in st r) (payload_at r)) Read
    alive_agrees alive head = go (slice_index r 18 == pad_kind) (rw alive at read_sort) read_mark where
      go : (t : Bool) → Read.sort ≡ (if t then sorts.Pad else sorts.File) → Read.is_marked ≡ (shows_mark (Some st) && not t)
          → IsCellPiece (if t then Pad 0 (head_in st r) (payload_at r) else Valid 0 (head_in st r) (payload_at r)) Read
      go true sort mark = (sort, head, mark ∙ and_no (shows_mark (Some st)))
      go false sort mark = (sort, head, mark ∙ and_yes (shows_mark (Some st)))

  by_state : (o : Option FileState) → state_of layout.polarity (slice_index r 23) ≡ o → (o ≡ Some states.Free → ⊥)
      → AllHold (state_checks o (system_by layout.files) 0 r)
      → IsCellPiece (cell_in o 0 r) (if is_stub_state o then plain_piece sorts.Stub (file_header_len_at r) none else Read)
  unfolding plain_piece
  by_state None shows free h = let failed = h.0 in cc
  by_state (Some states.Free) shows free h = absurd (free refl)
  by_state (Some states.Construction) shows free h = (refl, refl, refl)
  by_state (Some states.HeaderInvalid) shows free h = (refl, refl, refl)
  by_state (Some states.HeaderValid) shows free h =
      dead_agrees states.HeaderValid shows refl refl (strict_head states.HeaderValid false h)
  by_state (Some states.Deleted) shows free h = dead_agrees states.Deleted shows refl refl (strict_head states.Deleted false h)
  by_state (Some states.DataValid) shows free h = alive_agrees states.DataValid shows refl (strict_head states.DataValid true h)
  by_state (Some states.Marked) shows free h = alive_agrees states.Marked shows refl (strict_head states.Marked true h)

  -- where a header may begin and the strict reading finds no fault, the piece is the strict cell
  pub sound_agrees : may_be_header layout.polarity r ≡ true → strict_kind layout r ≡ None
      → IsCellPiece (cell_in (state_of layout.polarity (slice_index r 23)) 0 r) (piece_by layout r)
  unfolding piece_by sound_piece
  sound_agrees header is =
      let parts = and_split (nat_le 24 (length r)) _ header in
      rw (header, is) (by_state (state_of layout.polarity (slice_index r 23)) refl (not_free layout.polarity (slice_index r 23) parts.1)
      (strict_holds layout r is).1)
