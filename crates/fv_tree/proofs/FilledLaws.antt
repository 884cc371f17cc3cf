-- Each file of a volume has the data that are at its place.
use Rattle.std.proofs.Common.{◌≡◌, ℕ, ◌+◌, ◌-◌, [], ◌∷◌, List, length, take, drop, map, refl, ap, arith, length-take-le}
use Rattle.fv_base.proofs.Laws.{AllByRecursion, field-take, common_steps}
use Rattle.fv_file.specs.Words.{CellForm, Valid, attribute_bits, file_sum_for}
use Rattle.fv_file.specs.declared.head.FileHead.{FileHead}
use Rattle.fv_file.proofs.Laws.{IsPayloadIn}
use Rattle.fv_head.specs.Words.{HeadFields, BeginsVolume}
use Rattle.fv_head.specs.declared.extent.Extent.{Extent}
use Rattle.fv_head.proofs.Laws.{first_lies}
use Rattle.fv_tree.specs.Words.{AreFilesOf, bare_form, file_form, filled, files_in, with_data}
use Rattle.fv_tree.specs.declared.volume_files.LocatedFile.{LocatedFile}
use Rattle.fv_tree.specs.inner.ReadingParts.{AllStored, bare}
use Rattle.fv_tree.proofs.BodyLaws.{LiesBy, files_inside}
use Rattle.fv_tree.proofs.SmallCellLaws.{header_follows}

-- ---- the data at a file's place

-- a file without its data gets its own data back
one_back : (volume : List ℕ) (at : ℕ) (head : FileHead) (payload : List ℕ)
    → payload ≡ take (head.size - head.header_len) (drop (at + head.header_len) volume)
    → head.file_sum ≡ file_sum_for (attribute_bits head.attributes) payload
    → filled volume (bare (record { offset = at; head = head; payload = payload })) ≡ record { offset = at; head = head; payload = payload }
one_back volume at head payload is sum = grind (arith, common_steps) steps 150000

-- so each file of cells gets its own data back
pub all_back : (volume : List ℕ) (base : ℕ) (cs : List CellForm) → AllByRecursion (IsPayloadIn volume) cs → AllStored base (files_in cs)
    → map (filled volume) (map bare (files_in cs)) ≡ files_in cs
all_back volume base [] p h = refl
all_back volume base (Valid at head payload ∷ cs) p (((system, polarity, b, small, short, is), place, few), others) =
    let follows = header_follows system polarity head payload b small is.0 is.2 in
    rw (one_back volume at head payload p.0 follows.file_sum, all_back volume base cs p.1 others)
all_back volume base (_ ∷ cs) p h = all_back volume base cs p.1 h

-- ---- the data in the first bytes

-- a file that ends in the first n bytes has the same data in them and in all bytes
front_filled : (n : ℕ) (b : List ℕ) (ss : List LocatedFile) → AllByRecursion (LiesBy n) (map (file_form (take n b)) ss)
    → map (file_form (take n b)) ss ≡ map (file_form b) ss
front_filled n b [] h = refl
front_filled n b (s ∷ ss) h = rw (same, front_filled n b ss h.1) refl where
  same : file_form (take n b) s ≡ file_form b s
  same = ap (λ (p : List ℕ). with_data p (bare_form s)) (field-take _ _ n b (omega (arith, h.0.ends)))

-- so the files of a volume at the start of some bytes are the same files, with their data in these bytes
pub stands : (b : List ℕ) (h : HeadFields) (e : Extent) (ss : List LocatedFile) → BeginsVolume h e b
    → AreFilesOf e (take e.length b) (map (file_form (take e.length b)) ss) → AreFilesOf e (take e.length b) (map (file_form b) ss)
stands b h e ss front are =
    let long : length (take e.length b) ≡ e.length = length-take-le e.length b front.is_within in
    let inside = files_inside e (take e.length b) _ (omega (arith, long, (first_lies b h e front).1)) are in
    rw (front_filled e.length b ss (rw long at inside)) at are
