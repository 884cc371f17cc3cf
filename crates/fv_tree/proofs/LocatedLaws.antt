-- The files of a volume as they are stored: the data of each file are in the volume at the data's offset, and there are
-- no other files.
use Rattle.std.proofs.Common.{◌≡◌, ◌≤◌, ℕ, ◌+◌, ◌-◌, [], ◌∷◌, List, length, take, drop, arith, length-take-le}
use Rattle.fv_base.proofs.Laws.{take_all, common_steps, AllByRecursion, field-take, up_to_8}
use Rattle.fv_file.specs.Words.{CellForm, Valid, CellsWithin}
use Rattle.fv_file.specs.declared.head.FileHead.{FileHead}
use Rattle.fv_file.proofs.Laws.{IsPayloadIn, body_payloads}
use Rattle.fv_head.specs.Words.{HeadFields, BeginsVolume}
use Rattle.fv_head.specs.declared.extent.Extent.{Extent}
use Rattle.fv_head.proofs.Laws.{first_lies, one_front}
use Rattle.fv_tree.proofs.BodyLaws.{cells_inside, of_current}
use Rattle.fv_tree.proofs.MeaningLaws.{one_stand}
use Rattle.fv_tree.specs.Words.{FileForm, files_in, Denotes, data_place, AreFilesOf, BeginWithFiles, HasDataIn, Meaning}

-- ---- the places of the data

one_file : (volume : List ℕ) (at : ℕ) (head : FileHead) (payload : List ℕ)
    → payload ≡ take (head.size - head.header_len) (drop (at + head.header_len) volume) → at + up_to_8 head.size ≤ length volume
    → head.header_len + length payload ≡ head.size → HasDataIn volume (record { offset = at; head = head; payload = payload })
one_file volume at head payload is lies made = grind (arith, common_steps)

all_files : (volume : List ℕ) (cs : List CellForm) → AllByRecursion (IsPayloadIn volume) cs → CellsWithin (length volume) cs
    → AllByRecursion (HasDataIn volume) (files_in cs)
all_files volume [] p l = tt
all_files volume (Valid at head payload ∷ cs) p l = (one_file volume at head payload p.0 l.0 l.1, all_files volume cs p.1 l.2)
all_files volume (_ ∷ cs) p l = all_files volume cs p.1 l.2

-- data that are in the first n bytes are in all bytes
in_front : (n : ℕ) (b : List ℕ) (fs : List FileForm) → n ≤ length b → AllByRecursion (HasDataIn (take n b)) fs
    → AllByRecursion (HasDataIn b) fs
in_front n b [] w h = tt
in_front n b (f ∷ fs) w h =
    let within : data_place f + length f.payload ≤ n = omega (arith, h.0.0, length-take-le n b w) in
    ((omega (arith, within, w), rw (field-take (data_place f) (length f.payload) n b within) at h.0.1), in_front n b fs w h.1)

-- the data of each file that bytes begin with are in the bytes
pub begun_data : (b : List ℕ) (fs : List FileForm) → BeginWithFiles b fs → AllByRecursion (HasDataIn b) fs
begun_data b fs (h, e, front, stand) =
    let v : List ℕ = take e.length b in
    let long : length v ≡ e.length = length-take-le e.length b front.is_within in
    let within = cells_inside e v stand.cells (omega (arith, long, (first_lies b h e front).1)) stand.tiles in
    let files = all_files v stand.cells (body_payloads e.file_system e.polarity e.first stand.cells v stand.tiles) within in
    in_front e.length b fs front.is_within (rw stand.current.files_are (of_current (HasDataIn v) _ files))

-- ---- the stored files are the only ones

module _ (b : List ℕ) (h : HeadFields) (e : Extent) (front : BeginsVolume h e b) where
  -- the files that bytes begin with are the files of the volume with the header that the bytes begin with
  pub located_stand : (gs : List FileForm) → BeginWithFiles b gs → AreFilesOf e (take e.length b) gs
  located_stand gs (k, x, other, stand) = rw (one_front b k h x e other front).1 at stand

pub one_files : (b : List ℕ) (fs gs : List FileForm) → BeginWithFiles b fs → BeginWithFiles b gs → gs ≡ fs
one_files b fs gs (h, e, front, stand) other = one_stand e (take e.length b) fs gs stand (located_stand b h e front gs other)

-- ---- the files of bytes that are a volume

pub volume_files : (n : ℕ) (b : List ℕ) (m : Meaning) → (v : Denotes n b m) → BeginWithFiles b v.files
volume_files n b m v = grind (arith, common_steps, take_all)
