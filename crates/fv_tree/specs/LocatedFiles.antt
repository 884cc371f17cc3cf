-- The cells of the volume at the start of some bytes, and the volume's files as they are stored in it, each with its
-- place (PI specification, volume 3, sections 3.2.2 and 3.2.3).
use Rattle.std.specs.Prelude.{◌⊎◌, ℕ, List, [], take, drop, ◌≡◌, ◌≤◌, ◌+◌, ◌-◌, length}
use Rattle.fv_base.specs.Words.{IsFirstFault, First, field}
use Rattle.fv_base.specs.declared.fault.Fault.{Fault}
use Rattle.fv_file.specs.Words.{CellForm, Tiles, IsFirstCellFault, attribute_bits, is_large, file_header_len}
use Rattle.fv_file.specs.Words.{file_sum_for}
use Rattle.fv_head.specs.Words.{HeadFields, BeginsVolume, head_checks}
use Rattle.fv_head.specs.declared.extent.Extent.{Extent}
use Rattle.fv_tree.specs.FirstFault.{Moved, StoredFault, data_place, outermost}
use Rattle.fv_tree.specs.VolumeFiles.{FileForm, AreCurrent, files_in}
use Rattle.fv_tree.specs.declared.volume_files.LocatedFile.{LocatedFile}

-- the bytes begin with a volume of this extent, and these cells tile its body
pub record BeginsTiled (e : Extent) (cells : List CellForm) (b : List ℕ) : Type 0 where
  pub head : HeadFields
  pub begins : BeginsVolume head e b
  pub tiles : Tiles e.file_system e.polarity e.first cells (drop e.first (take e.length b))

-- the first fault of the header with which the bytes should begin, or of the cells after that header
abbrev pub IsFirstOfCells : List ℕ → Fault → Type 0
IsFirstOfCells b f =
    IsFirstFault (head_checks b) f
    ⊎ ((h : HeadFields) × (e : Extent) × BeginsVolume h e b
    × IsFirstCellFault e.file_system e.polarity e.first (drop e.first (take e.length b)) f)

-- the bytes do not begin with a volume whose body is tiled by cells, and this is the first fault
pub record NotTiled (b : List ℕ) (f : Fault) : Type 0 where
  pub none : (e : Extent) (cells : List CellForm) → BeginsTiled e cells b → ⊥
  pub first : IsFirstOfCells b f

-- the length of a file header with these attributes (section 3.2.3.1, FFS_ATTRIB_LARGE_FILE)
abbrev pub header_len_by : ℕ → ℕ
header_len_by attributes = file_header_len (is_large attributes)

-- the stored form of a file that a call has returned, without its data and without the file checksum, which follows
-- from the data
abbrev pub bare_form : LocatedFile → FileForm
bare_form s = record {
  offset = s.offset;
  head = record {
    name = s.name;
    kind = s.kind;
    attributes = s.attributes;
    size = header_len_by (attribute_bits s.attributes) + s.len;
    header_len = header_len_by (attribute_bits s.attributes);
    header_sum = s.header_sum;
    file_sum = 0;
    state = s.state;
  };
  payload = [];
}

-- the file with these data, and with the file checksum that follows from them
abbrev pub with_data : List ℕ → FileForm → FileForm
with_data payload f =
    record f { head = record f.head { file_sum = file_sum_for (attribute_bits f.head.attributes) payload }; payload = payload }

-- the file with its data: the bytes of the volume at the place of the data, as many as the size leaves after the header
abbrev pub filled : List ℕ → FileForm → FileForm
filled volume f = with_data (field (data_place f) (f.head.size - f.head.header_len) volume) f

-- the stored form of a file that a call has returned: its fields, the fields that follow from them, and its data, which
-- are in the volume
abbrev pub file_form : List ℕ → LocatedFile → FileForm
file_form volume s = filled volume (bare_form s)

-- cells tile the body of the volume, which begins where the first file may begin, and these are the files of the volume
-- in these cells, as they are stored
pub record AreFilesOf (e : Extent) (volume : List ℕ) (files : List FileForm) : Type 0 where
  pub cells : List CellForm
  pub tiles : Tiles e.file_system e.polarity e.first cells (drop e.first volume)
  pub current : AreCurrent e.length (files_in cells) files

-- the bytes begin with a volume, and these are its files, as they are stored
abbrev pub BeginWithFiles : List ℕ → List FileForm → Type 0
BeginWithFiles b files = (h : HeadFields) × (e : Extent) × BeginsVolume h e b × AreFilesOf e (take e.length b) files

-- the bytes contain the data of the file, at the data's offset
abbrev pub HasDataIn : List ℕ → FileForm → Type 0
HasDataIn b f = (data_place f + length f.payload ≤ length b) × (field (data_place f) (length f.payload) b ≡ f.payload)

-- the first fault of bytes that should begin with a volume, if the data of its files are not split into sections: a
-- fault of the header, or of the cells and the files
abbrev pub IsFirstOfFiles : List ℕ → Fault → Type 0
IsFirstOfFiles b f =
    IsFirstFault (head_checks b) f
    ⊎ ((h : HeadFields) × (e : Extent) × BeginsVolume h e b × Moved outermost (StoredFault First e (take e.length b)) f)
