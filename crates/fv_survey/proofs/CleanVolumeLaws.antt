-- A volume is read without findings exactly if the strict reading gives it a meaning, if this is so of the streams in
-- its files. The steps:
-- 1. The files among the pieces of a body that is read as cells are the valid files of these cells (`files_read`), and
--    a file is opened exactly if it is current and its type holds sections (`opened_is`).
-- 2. If the current files have meanings, the pieces and the data of the opened files have no findings
--    (`pieces_clean`); and the other way round (`files_mean`).
-- 3. So a volume with a meaning has no findings (`volume_clean`), and a volume without findings has a meaning
--    (`volume_means`).
use Rattle.std.proofs.Common.{◌≡◌, ◌≤◌, ◌<◌, ◌+◌, ◌-◌, ◌%◌, ◌==◌, ◌&&◌, ◌||◌, ◌++◌, ℕ, [], ◌∷◌, not, Bool, true, false, if◌then◌else◌}
use Rattle.std.proofs.Common.{List, length, drop, map, refl, sym, ap, ◌∙◌, subst, arith, zero, suc, length-drop, take_all}
use Rattle.std.specs.List.{filter, list_any}
use Rattle.fv_base.proofs.Laws.{IsBytes, Some, and_join, and_split, bytes_drop, bytes_take, field, nat_tests, up_is_not_down}
use Rattle.fv_base.specs.declared.flash.FileSystem.{FileSystem}
use Rattle.fv_base.specs.declared.flash.FileSystem.TheVariants as systems
use Rattle.fv_file.specs.Words.{CellForm, Valid, Pad, Dead, Stub, Free, Tiles, attribute_bits, offset_of, without_large}
use Rattle.fv_file.specs.declared.state.FileState.{FileState}
use Rattle.fv_file.specs.declared.state.FileState.TheVariants as states
use Rattle.fv_head.proofs.Laws.{first_lies, front_extent, front_lies}
use Rattle.fv_head.specs.declared.extent.Extent.{Extent}
use Rattle.fv_names.specs.Words.{replaced_by}
use Rattle.fv_tree.proofs.Laws.{files_list_back}
use Rattle.fv_tree.specs.Words.{File, FileForm, FileMeaning, Meaning, MeansFile, Pairwise, Plain, SectionMeaning, Sectioned}
use Rattle.fv_tree.specs.Words.{StreamRelation, Volume, VolumeOver, current_in, files_from, files_in, files_of, head_of, holds_sections, is_marked}
use Rattle.fv_tree.specs.Words.{TopAtEnd, sections_from, sections_list, superseded_by}
use Rattle.fv_survey.specs.inner.CleanParts.{pieces_up_to}
use Rattle.fv_survey.proofs.CellAgreementLaws.{AllClean, clean_tiled, tiled_read}
use Rattle.fv_survey.proofs.CleanSectionLaws.{list_back}
use Rattle.fv_survey.proofs.HeaderAgreementLaws.{clean_begins, same_extent}
use Rattle.fv_survey.proofs.NameAgreementLaws.{names_accepted, names_free, stored_as}
use Rattle.fv_survey.proofs.PieceBoundLaws.{piece_lies}
use Rattle.fv_survey.specs.Words.{Clean, CleanPieces, CleanVolume, HasData, IsCellPiece, ReadAs, SameExtent, body_files, cells_by}
use Rattle.fv_survey.specs.Words.{file_if, files_among, files_findings, files_for, is_opened_file, layout_of, name_findings, named_file}
use Rattle.fv_survey.specs.Words.{none, parts_by, piece_by, piece_data, shows_mark, system_by}
use Rattle.fv_survey.specs.declared.names.BodyFile.{BodyFile}
use Rattle.fv_survey.specs.declared.parts.Parts.{Parts}
use Rattle.fv_survey.specs.declared.pieces.Layout.{Layout}
use Rattle.fv_survey.specs.declared.pieces.Piece.{Piece}
use Rattle.fv_survey.specs.declared.systems.Files.TheVariants as files

-- ---- the files of a body

mark_is : (st : FileState) → shows_mark (Some st) ≡ is_marked st
mark_is states.Free = refl
mark_is states.Construction = refl
mark_is states.HeaderValid = refl
mark_is states.DataValid = refl
mark_is states.Marked = refl
mark_is states.Deleted = refl
mark_is states.HeaderInvalid = refl

-- the file that a piece is, if the piece is a cell
file_is : (len at : ℕ) (c : CellForm) (piece : Piece) → offset_of c ≡ at → IsCellPiece c piece
    → file_if piece.sort len at piece ≡ map (stored_as len) (files_in (c ∷ []))
file_is len at (Valid place head payload) piece o (sort, (header, size, span, code, name), mark) =
    let marked : piece.is_marked ≡ is_marked head.state = mark ∙ mark_is head.state in
    rw (sort, name, marked, size, ← o) refl
file_is len at (Pad place head payload) piece o is = rw is.0 refl
file_is len at (Dead place n state) piece o is = rw is.0 refl
file_is len at (Stub place n) piece o is = rw is.0 refl
file_is len at (Free place n) piece o is = rw is.0 refl

-- the files of one more cell
files_more : (len : ℕ) (c : CellForm) (cs : List CellForm)
    → map (stored_as len) (files_in (c ∷ cs)) ≡ map (stored_as len) (files_in (c ∷ [])) ++ map (stored_as len) (files_in cs)
files_more len (Valid place head payload) cs = refl
files_more len (Pad place head payload) cs = refl
files_more len (Dead place n state) cs = refl
files_more len (Stub place n) cs = refl
files_more len (Free place n) cs = refl

module _ (layout : Layout) where
  none_among : (len n at : ℕ) → files_among layout len n at [] ≡ []
  none_among len zero at = refl
  none_among len (suc n) at = refl

  some_among : (len n at : ℕ) (r : List ℕ) → 0 < length r
      → files_among layout len (suc n) at r
      ≡ file_if (piece_by layout r).sort len at (piece_by layout r)
      ++ files_among layout len n (at + (piece_by layout r).span) (drop (piece_by layout r).span r)
  some_among len n at r some = let used : (length r == 0) ≡ false = grind (arith, nat_tests, some) in rw used refl

  -- the files among the pieces of a body that is read as cells are the valid files of these cells
  pub files_read : (len n at : ℕ) (cs : List CellForm) (r : List ℕ) → length r ≤ n → length r % 8 ≡ 0 → ReadAs layout at cs r
      → files_among layout len n at r ≡ map (stored_as len) (files_in cs)
  files_read len n at [] r few in_eights empty = ap (files_among layout len n at) empty ∙ none_among len n at
  files_read len zero at (c ∷ cs) r few in_eights read = absurd (omega (arith, few, read.0))
  files_read len (suc n) at (c ∷ cs) r few in_eights (some, place, piece, clean, payload, read) =
      let span : ℕ = (piece_by layout r).span in
      let lies = piece_lies layout r some in_eights in
      let rest = files_read len n (at + span) cs (drop span r) (omega (arith, length-drop span r, lies.some, few))
      (omega (arith, length-drop span r, lies.within, lies.multiple, in_eights)) read in
      some_among len n at r some
      ∙ ap (λ (fs : List BodyFile). file_if (piece_by layout r).sort len at (piece_by layout r) ++ fs) rest
      ∙ ap (λ (fs : List BodyFile). fs ++ map (stored_as len) (files_in cs)) (file_is len at c (piece_by layout r) place piece)
      ∙ sym (files_more len c cs)

  -- pieces without findings inside have no findings
  clean_all : (stream : Clean) (fs : List BodyFile) (n : ℕ) (r : List ℕ) → CleanPieces stream layout fs n r
      → AllClean (pieces_up_to layout n r)
  clean_all stream fs zero r clean = tt
  clean_all stream fs (suc n) r clean = go (length r == 0) refl (λ c. clean_all stream fs n (drop (piece_by layout r).span r) c) where
    go : (t : Bool) → (length r == 0) ≡ t
        → (CleanPieces stream layout fs n (drop (piece_by layout r).span r)
        → AllClean (pieces_up_to layout n (drop (piece_by layout r).span r)))
        → AllClean (if t then [] else piece_by layout r ∷ pieces_up_to layout n (drop (piece_by layout r).span r))
    go true e rest = tt
    go false e rest =
        let some : 0 < length r = grind (arith, nat_tests, e) in
        let here = clean some in
        (here.0, rest here.2)

-- ---- the files that are opened

module _ (len : ℕ) (all : List FileForm) where
  -- the file is current: none of the files supersedes it
  abbrev Current : FileForm → Bool
  Current f = not (list_any (superseded_by f) all)

  abbrev Seen : List BodyFile
  Seen = map (stored_as len) all

  any_update : (f : FileForm) (fs : List FileForm)
      → list_any (λ (g : BodyFile). replaced_by (record { name = f.head.name; marked = is_marked f.head.state }) (named_file g))
      (map (stored_as len) fs)
      ≡ list_any (superseded_by f) fs
  any_update f [] = refl
  any_update f (g ∷ gs) = ap (λ v. superseded_by f g || v) (any_update f gs)

  -- a valid file is opened exactly if it is current and its type holds sections
  opened_is : (at : ℕ) (f : FileForm) (piece : Piece) → IsCellPiece (Valid at f.head f.payload) piece
      → is_opened_file Seen piece ≡ (holds_sections f.head.kind && Current f)
  opened_is at f piece (sort, (header, size, span, code, name), mark) =
      let marked : piece.is_marked ≡ is_marked f.head.state = mark ∙ mark_is f.head.state in
      rw (sort, code, name, marked) (ap (λ t. holds_sections f.head.kind && not t) (any_update f all))

  -- other cells are not opened
  not_opened : (sort : Bool) (piece : Piece) (t u : Bool) → sort ≡ false → (sort && t && u) ≡ false
  not_opened sort piece t u e = rw e refl

  module _ (is_stream : StreamRelation) (stream : Clean) (layout : Layout) where
    -- the data of a file with a meaning are a stream, if its type holds sections
    content_clean : ((ss : List SectionMeaning) (tail : ℕ) (b : List ℕ) → is_stream ss tail b → stream b) → (f : FileForm)
        (m : FileMeaning) → MeansFile is_stream f m → holds_sections f.head.kind ≡ true → stream f.payload
    content_clean streams f (File name kind attributes (Plain b)) (_, is, _, (leaf, _)) holds =
        absurd (up_is_not_down _ holds (sym (ap holds_sections is) ∙ leaf))
    content_clean streams f (File name kind attributes (Sectioned sections tail)) (_, is, _, (_, means)) holds =
        streams (sections_list sections) tail f.payload means

    -- the data of a piece are the data of its cell
    data_is : (at : ℕ) (f : FileForm) (piece : Piece) (r : List ℕ) → IsCellPiece (Valid at f.head f.payload) piece
        → f.payload ≡ field f.head.header_len (f.head.size - f.head.header_len) r → piece_data piece r ≡ f.payload
    data_is at f piece r (sort, (header, size, span, code, name), mark) payload = rw (header, size) (sym payload)

    -- if the current files have meanings, the pieces and the data of the files that are opened have no findings
    pub pieces_clean : ((ss : List SectionMeaning) (tail : ℕ) (b : List ℕ) → is_stream ss tail b → stream b) → (n at : ℕ)
        (cs : List CellForm) (r : List ℕ) (ms : List FileMeaning) → ReadAs layout at cs r
        → Pairwise (MeansFile is_stream) (filter Current (files_in cs)) ms → CleanPieces stream layout Seen n r
    pieces_clean streams zero at cs r ms read pairs = tt
    pieces_clean streams (suc n) at [] r ms empty pairs = λ some. absurd (omega (arith, some, ap length empty))
    pieces_clean streams (suc n) at (Valid place head payload ∷ cs) r ms (_, o, piece, clean, is, read) pairs = λ some.
        go (Current f) refl ms pairs
        (λ more others. pieces_clean streams n (at + (piece_by layout r).span) cs (drop (piece_by layout r).span r) more read others)
      where
        f : FileForm
        f = record { offset = place; head = head; payload = payload }

        go : (t : Bool) → Current f ≡ t → (ms : List FileMeaning)
            → Pairwise (MeansFile is_stream) (if t then f ∷ filter Current (files_in cs) else filter Current (files_in cs)) ms
            → ((more : List FileMeaning) → Pairwise (MeansFile is_stream) (filter Current (files_in cs)) more
            → CleanPieces stream layout Seen n (drop (piece_by layout r).span r))
            → ((piece_by layout r).findings ≡ none)
            × (is_opened_file Seen (piece_by layout r) ≡ true → stream (piece_data (piece_by layout r) r))
            × CleanPieces stream layout Seen n (drop (piece_by layout r).span r)
        go true e [] pairs rest = absurd pairs
        go true e (m ∷ ms) pairs rest = (
          clean,
          λ opened. subst stream (sym (data_is place f (piece_by layout r) r piece is))
              (content_clean streams f m pairs.0
              ((and_split _ _ (sym (opened_is place f (piece_by layout r) piece) ∙ opened)).0)),
          rest ms pairs.1,
        )
        go false e ms pairs rest = (
          clean,
          λ opened. absurd (up_is_not_down _ ((and_split _ _ (sym (opened_is place f (piece_by layout r) piece) ∙ opened)).1) e),
          rest ms pairs,
        )
    pieces_clean streams (suc n) at (Pad place head payload ∷ cs) r ms (_, o, piece, clean, is, read) pairs = λ some. (
      clean,
      λ opened. absurd (up_is_not_down _ opened (rw piece.0 refl)),
      pieces_clean streams n (at + (piece_by layout r).span) cs (drop (piece_by layout r).span r) ms read pairs,
    )
    pieces_clean streams (suc n) at (Dead place len state ∷ cs) r ms (_, o, piece, clean, is, read) pairs = λ some. (
      clean,
      λ opened. absurd (up_is_not_down _ opened (rw piece.0 refl)),
      pieces_clean streams n (at + (piece_by layout r).span) cs (drop (piece_by layout r).span r) ms read pairs,
    )
    pieces_clean streams (suc n) at (Stub place len ∷ cs) r ms (_, o, piece, clean, is, read) pairs = λ some. (
      clean,
      λ opened. absurd (up_is_not_down _ opened (rw piece.0 refl)),
      pieces_clean streams n (at + (piece_by layout r).span) cs (drop (piece_by layout r).span r) ms read pairs,
    )
    pieces_clean streams (suc n) at (Free place len ∷ cs) r ms (_, o, piece, clean, is, read) pairs = λ some. (
      clean,
      λ opened. absurd (up_is_not_down _ opened (rw piece.0 refl)),
      pieces_clean streams n (at + (piece_by layout r).span) cs (drop (piece_by layout r).span r) ms read pairs,
    )

    -- the data of the files that are opened have meanings, if they have no findings
    means_content : ((b : List ℕ) → IsBytes b → stream b → (ss : List SectionMeaning) × (tail : ℕ) × is_stream ss tail b)
        → (f : FileForm) → IsBytes f.payload → (holds_sections f.head.kind ≡ true → stream f.payload)
        → (m : FileMeaning) × MeansFile is_stream f m
    means_content means f small clean = go (holds_sections f.head.kind) refl where
      go : (t : Bool) → holds_sections f.head.kind ≡ t → (m : FileMeaning) × MeansFile is_stream f m
      go false leaf = (
        File f.head.name f.head.kind (without_large (attribute_bits f.head.attributes)) (Plain f.payload),
        (refl, refl, refl, (leaf, refl)),
      )
      go true holds =
          let found = means f.payload small (clean holds) in (
            File f.head.name f.head.kind (without_large (attribute_bits f.head.attributes)) (Sectioned (sections_from found.0) found.1),
            (
              refl,
              refl,
              refl,
              (
                holds,
                subst (λ (ss : List SectionMeaning). is_stream ss found.1 f.payload)
                    (sym (list_back found.0)) found.2,
              ),
            ),
          )

    -- if the pieces and the data of the files that are opened have no findings, the current files have meanings
    pub files_mean : ((b : List ℕ) → IsBytes b → stream b → (ss : List SectionMeaning) × (tail : ℕ) × is_stream ss tail b) → (n at : ℕ)
        (cs : List CellForm) (r : List ℕ) → length r ≤ n → length r % 8 ≡ 0 → IsBytes r → ReadAs layout at cs r
        → CleanPieces stream layout Seen n r → (ms : List FileMeaning) × Pairwise (MeansFile is_stream) (filter Current (files_in cs)) ms
    files_mean means n at [] r few in_eights small read clean = ([], tt)
    files_mean means zero at (c ∷ cs) r few in_eights small read clean = absurd (omega (arith, few, read.0))
    files_mean means (suc n) at (c ∷ cs) r few in_eights small (some, o, piece, none, is, read) clean =
        let span : ℕ = (piece_by layout r).span in
        let lies = piece_lies layout r some in_eights in
        let rest = files_mean means n (at + span) cs (drop span r) (omega (arith, length-drop span r, lies.some, few))
        (omega (arith, length-drop span r, lies.within, lies.multiple, in_eights)) (bytes_drop span r small) read (clean some).2 in
        one c piece is rest
      where
        one : (c : CellForm) → IsCellPiece c (piece_by layout r) → HasData c r
            → (ms : List FileMeaning) × Pairwise (MeansFile is_stream) (filter Current (files_in cs)) ms
            → (ms : List FileMeaning) × Pairwise (MeansFile is_stream) (filter Current (files_in (c ∷ cs))) ms
        one (Pad place head payload) piece is rest = rest
        one (Dead place len state) piece is rest = rest
        one (Stub place len) piece is rest = rest
        one (Free place len) piece is rest = rest
        one (Valid place head payload) piece is rest = go (Current f) refl where
          f : FileForm
          f = record { offset = place; head = head; payload = payload }

          held : IsBytes f.payload
          held = subst IsBytes (sym is) (bytes_take (head.size - head.header_len) (drop head.header_len r)
              (bytes_drop head.header_len r small))

          go : (t : Bool) → Current f ≡ t
              → (ms : List FileMeaning) × Pairwise (MeansFile is_stream)
              (if t then f ∷ filter Current (files_in cs) else filter Current (files_in cs)) ms
          go false e = rest
          go true e =
              let made = means_content means f held (λ holds. subst stream (data_is place f (piece_by layout r) r piece is)
              ((clean some).1 (opened_is place f (piece_by layout r) piece ∙ and_join _ _ holds e))) in
              (made.0 ∷ rest.0, (made.1, rest.1))

-- ---- volumes

pub files_not_store : (s : FileSystem) → files_for s ≡ files.Store → ⊥
files_not_store systems.Ffs2 e = cc
files_not_store systems.Ffs3 e = cc

-- the cells of a body whose length is a multiple of 8 are all its bytes
cells_whole : (s : FileSystem) (first : ℕ) (b : List ℕ) → first ≤ length b → (length b - first) % 8 ≡ 0
    → cells_by (files_for s) first b ≡ drop first b
cells_whole systems.Ffs2 first b within in_eights =
    take_all _ (drop first b) (omega (arith, length-drop first b, within, in_eights))
cells_whole systems.Ffs3 first b within in_eights =
    take_all _ (drop first b) (omega (arith, length-drop first b, within, in_eights))

-- a volume that is all of these bytes is read with its file system, from the start of its body on
record Body (e : Extent) (b : List ℕ) : Type 0 where
  cells : cells_by (parts_by b).files (parts_by b).first b ≡ drop e.first b
  in_eights : length (drop e.first b) % 8 ≡ 0

body_is : (e : Extent) (b : List ℕ) → SameExtent e b → e.first ≤ e.length → (e.first % 8 ≡ 0) → (e.length % 8 ≡ 0) → length b ≡ e.length
    → Body e b
body_is e b same within first whole length_is = record {
  cells = ap (λ s. cells_by s (parts_by b).first b) same.files ∙ ap (λ n. cells_by (files_for e.file_system) n b) same.first
      ∙ cells_whole e.file_system e.first b (omega (arith, within, length_is)) (omega (arith, first, whole, length_is, within));
  in_eights = omega (arith, length-drop e.first b, first, whole, length_is, within);
}

names_are : (parts : Parts) (b : List ℕ) → name_findings parts b ≡ files_findings (body_files parts b)
unfolding name_findings
names_are parts b = refl

-- the files of the volume are the valid files of the cells that its body is read as
volume_files : (e : Extent) (b : List ℕ) (cs : List CellForm) → Body e b
    → ReadAs (layout_of (parts_by b)) (parts_by b).first cs (drop e.first b)
    → body_files (parts_by b) b ≡ map (stored_as (length b)) (files_in cs)
volume_files e b cs body read =
    ap (λ (r : List ℕ). files_among (layout_of (parts_by b)) (length b) (length r) (parts_by b).first r) body.cells
    ∙ files_read (layout_of (parts_by b)) (length b) (length (drop e.first b)) (parts_by b).first cs (drop e.first b) (omega arith)
    body.in_eights read

module _ (is_stream : StreamRelation) (stream : Clean) where
  -- a volume with a meaning has no findings
  pub volume_clean : ((ss : List SectionMeaning) (tail : ℕ) (b : List ℕ) → is_stream ss tail b → stream b) → (b : List ℕ) (m : Meaning)
      → VolumeOver is_stream b m → CleanVolume stream b
  volume_clean streams b m v =
      let e : Extent = v.extent in
      let same = same_extent b (head_of m) e v.begins in
      let lies = front_lies b (head_of m) e v.begins in
      let first = first_lies b (head_of m) e v.begins in
      let body = body_is e b same first.1 first.0 first.2 v.length_is in
      let parts : Parts = parts_by b in
      let tiles : Tiles (system_by parts.files) parts.polarity parts.first v.cells (drop e.first b) =
      subst (λ s. Tiles s parts.polarity parts.first v.cells (drop e.first b)) (sym same.system)
      (subst (λ p. Tiles e.file_system p parts.first v.cells (drop e.first b)) (sym same.polarity)
      (subst (λ n. Tiles e.file_system e.polarity n v.cells (drop e.first b)) (sym same.first) v.tiles)) in
      let read = tiled_read (layout_of parts) parts.first v.cells (drop e.first b) body.in_eights tiles in
      let seen = volume_files e b v.cells body read in
      let top : TopAtEnd (length b) (current_in (files_in v.cells)) =
      subst (λ n. TopAtEnd n (current_in (files_in v.cells))) (sym v.length_is)
      (subst (TopAtEnd e.length) v.current.files_are v.current.top) in
      let pairs : Pairwise (MeansFile is_stream) (current_in (files_in v.cells)) (files_of m) =
      subst (λ (fs : List FileForm). Pairwise (MeansFile is_stream) fs (files_of m)) v.current.files_are v.meanings in
      record {
        least = omega (arith, lies.least, lies.within, v.length_is);
        whole = ap (λ (x : Extent). x.length) (front_extent b (head_of m) e v.begins).1 ∙ sym v.length_is;
        filed = λ store. files_not_store e.file_system (sym same.files ∙ store);
        header = same.findings;
        names = names_are parts b ∙ ap files_findings seen ∙ names_accepted (length b) (files_in v.cells) v.current.no_twins top;
        pieces = subst (λ (r : List ℕ). CleanPieces stream (layout_of parts) (body_files parts b) (length r) r) (sym body.cells)
            (subst (λ (fs : List BodyFile). CleanPieces stream (layout_of parts) fs (length (drop e.first b)) (drop e.first b)) (sym seen)
            (pieces_clean (length b) (files_in v.cells) is_stream stream (layout_of parts) streams
            (length (drop e.first b)) parts.first v.cells
            (drop e.first b) (files_of m) read pairs));
      }

  -- a volume without findings has a meaning
  pub volume_means : ((b : List ℕ) → IsBytes b → stream b → (ss : List SectionMeaning) × (tail : ℕ) × is_stream ss tail b) → (b : List ℕ)
      → IsBytes b → CleanVolume stream b → (m : Meaning) × VolumeOver is_stream b m
  volume_means means b small clean =
      let front = clean_begins b small clean.least clean.header clean.filed in
      let e : Extent = front.0 in
      let begins = front.2 in
      let same = same_extent b front.1 e begins in
      let first = first_lies b front.1 e begins in
      let long : length b ≡ e.length = sym clean.whole ∙ ap (λ (x : Extent). x.length) (front_extent b front.1 e begins).1 in
      let body = body_is e b same first.1 first.0 first.2 long in
      let parts : Parts = parts_by b in
      let r : List ℕ = drop e.first b in
      let pieces : CleanPieces stream (layout_of parts) (body_files parts b) (length r) r =
      subst (λ (c : List ℕ). CleanPieces stream (layout_of parts) (body_files parts b) (length c) c) body.cells clean.pieces in
      let tiled = clean_tiled (layout_of parts) parts.first r body.in_eights
      (clean_all (layout_of parts) stream (body_files parts b) (length r) r pieces) in
      let cells : List CellForm = tiled.0 in
      let seen = volume_files e b cells body tiled.2 in
      let names = names_free (length b) (files_in cells) (sym (names_are parts b ∙ ap files_findings seen) ∙ clean.names) in
      let made = files_mean (length b) (files_in cells) is_stream stream (layout_of parts) means (length r) parts.first cells r
      (omega arith)
      body.in_eights (bytes_drop e.first b small) tiled.2
      (subst (λ (fs : List BodyFile). CleanPieces stream (layout_of parts) fs (length r) r) seen pieces) in (
        Volume front.1 (files_from made.0),
        record {
          extent = e;
          begins = begins;
          length_is = long;
          cells = cells;
          tiles = subst (λ s. Tiles s e.polarity e.first cells r) same.system
              (subst (λ p. Tiles (system_by parts.files) p e.first cells r) same.polarity
              (subst (λ n. Tiles (system_by parts.files) parts.polarity n cells r) same.first tiled.1));
          files = current_in (files_in cells);
          current = record {
            no_twins = names.0;
            files_are = refl;
            top = subst (λ n. TopAtEnd n (current_in (files_in cells))) long names.1;
          };
          meanings = subst (Pairwise (MeansFile is_stream) (current_in (files_in cells))) (sym (files_list_back made.0)) made.1;
        },
      )
