-- Proves that the volumes that are found in some bytes have headers (`headers_of`), one for each (`one_each`), and that
-- the header which is read at the offset of a volume is one of them (`header_at`).
use Rattle.std.proofs.Common.{◌≡◌, ◌<◌, ◌∙◌, ℕ, [], ◌∷◌, List, length, map, drop, get_or, refl, sym, ap, arith}
use Rattle.std.proofs.lemmas.List.{get_or-map, length-map}
use Rattle.fv_base.proofs.Laws.{AllByRecursion, at_index}
use Rattle.fv_head.proofs.Laws.{one_front}
use Rattle.fv_flash.proofs.Laws.{one_found}
use Rattle.fv_flash.specs.Words.{AreFound, VolumeAt, offsets_of}
use Rattle.fv_flash.specs.declared.scanner.FoundVolume.{FoundVolume}
use Rattle.fv_c.specs.ReportedHeaders.{AreHeaders, IsHeaderIn, reported_header}
use Rattle.fv_c.specs.declared.header.FvHeader.{FvHeader}

-- the offsets of these rows
abbrev header_offsets : List FvHeader → List ℕ
header_offsets rows = map (λ (r : FvHeader). r.offset) rows

-- each of these volumes has a header at its offset
rows_of : (b : List ℕ) (volumes : List FoundVolume) → AllByRecursion (λ v. VolumeAt b v.offset v.length) volumes
    → (rows : List FvHeader) × (header_offsets rows ≡ offsets_of volumes) × AllByRecursion (IsHeaderIn b) rows
rows_of b [] all = ([], refl, tt)
rows_of b (v ∷ vs) ((h, e, front, is), all) =
    let rest = rows_of b vs all in
    (reported_header v.offset h e ∷ rest.0, ap (λ l. v.offset ∷ l) rest.1, ((h, e, front, refl), rest.2))

module _ (b : List ℕ) (volumes : List FoundVolume) (headers : List FvHeader) (found : AreFound b volumes) (are : AreHeaders b headers) where
  -- the headers are at the offsets of the volumes, in the same order
  same_offsets : header_offsets headers ≡ offsets_of volumes
  same_offsets = one_found b _ _ are.found found.0

  -- there is one header for each volume
  pub one_each : length headers ≡ length volumes
  one_each = simp length-map at (ap length same_offsets)

  -- a header at the offset of volume i is header i
  pub header_at : (i : ℕ) (d : FoundVolume) (row z : FvHeader) → i < length volumes → row.offset ≡ (get_or volumes i d).offset
      → IsHeaderIn b row → row ≡ get_or headers i z
  header_at i d row z less at (h, e, front, is) =
      let (k, x, other, was) = at_index (IsHeaderIn b) headers i z are.headers (omega (arith, one_each)) in
      let offset : row.offset ≡ (get_or headers i z).offset =
      at ∙ sym (get_or-map (λ v. v.offset) volumes i d 0 less) ∙ ap (λ l. get_or l i 0) (sym same_offsets)
      ∙ get_or-map (λ r. r.offset) headers i z 0 (omega (arith, one_each)) in
      let same = one_front (drop row.offset b) h k e x front (rw offset other) in
      cc

-- the volumes that are found have headers, one for each volume
pub headers_of : (b : List ℕ) (volumes : List FoundVolume) → AreFound b volumes
    → (headers : List FvHeader) × AreHeaders b headers × (length headers ≡ length volumes)
headers_of b volumes found =
    let (rows, same, all) = rows_of b volumes found.1 in
    let are : AreHeaders b rows = record { found = rw same found.0; headers = all } in
    (rows, are, one_each b volumes rows found are)
