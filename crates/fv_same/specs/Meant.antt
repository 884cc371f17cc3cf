-- Which rows of a survey have a meaning, and what they say (docs/FORMAT.md, "What two images say"; PI specification,
-- volume 3, section 3.2).
use Rattle.std.specs.Prelude.{ℕ, zero, suc, ◌-◌, ◌==◌, nat_lt, ◌&&◌, ◌||◌, not, Bool, true, false, if◌then◌else◌}
use Rattle.std.specs.Prelude.{List, [], ◌∷◌, ◌++◌, length, take, drop, slice_get, slice_index, Option, Some, None}
use Rattle.std.specs.Str.{bytes_eq}
use Rattle.fv_base.specs.Words.{all_are, field, le_at}
use Rattle.fv_base.specs.declared.flash.Polarity.{Polarity}
use Rattle.fv_budget.specs.Words.{is_packed}
use Rattle.fv_file.specs.Words.{is_valid_state, pad_kind, state_at, without_large}
use Rattle.fv_file.specs.declared.state.FileState.{FileState}
use Rattle.fv_head.specs.Words.{polarity_of}
use Rattle.fv_survey.specs.Words.{counted_state, is_leaf, variables_guid}
use Rattle.fv_survey.specs.declared.row.Row.{Row}
use Rattle.fv_survey.specs.declared.row.RowKind.{RowKind}
use Rattle.fv_survey.specs.declared.row.RowKind.TheVariants as kinds
use Rattle.fv_same.specs.declared.meant.Around.{Around}
use Rattle.fv_same.specs.declared.meant.Around.TheVariants as arounds
use Rattle.fv_same.specs.declared.meant.Role.{Role}
use Rattle.fv_same.specs.declared.meant.Role.TheVariants as roles

-- ---- the bytes of a row

-- the bytes of a row of these bytes
abbrev pub bytes_of_row : List ℕ → Row → List ℕ
bytes_of_row b row = field row.offset row.length b

-- ---- what is around a row

-- the row directly around a row with this depth, if these are the rows around it, from the outermost to the innermost,
-- and then rows that came before it
abbrev pub around_at : List Around → ℕ → Option Around
around_at around zero = None
around_at around (suc depth) = slice_get around depth

-- the rows in this row, and the rows in them, do not count: they are outside of the meaning, or a part says their bytes
abbrev pub is_outside : Option Around → Bool
is_outside (Some arounds.Outside) = true
is_outside (Some arounds.Covered) = true
is_outside _ = false

-- ---- volumes

-- what the volume r at this offset is for the rows in it: a variable store, or a volume with the erase polarity of its
-- attributes. A volume has at least 56 bytes
abbrev pub around_volume : ℕ → List ℕ → Around
around_volume offset r =
    if nat_lt (length r) 56 then arounds.Outside
    else (if bytes_eq (field 16 16 r) variables_guid then arounds.Store else arounds.Volume offset (polarity_of (le_at 44 4 r)))

-- what a volume means that was found in bytes without a structure. In an image and in lost bytes it is read as a volume.
-- Otherwise its bytes are data of a file, the body of a section or the contents of a variable store, and all count; or
-- they lie before an extended header, and do not count
abbrev pub found_role : Option Around → ℕ → List ℕ → Role
found_role None offset r = roles.Through (around_volume offset r)
found_role (Some arounds.Lost) offset r = roles.Through (around_volume offset r)
found_role (Some (arounds.Volume start polarity)) offset r = roles.Out
found_role (Some arounds.Outside) offset r = roles.Out
found_role (Some arounds.Covered) offset r = roles.Out
found_role (Some _) offset r = roles.Whole

-- ---- files (section 3.2.3)

-- the state of the file r, by its State without the bits 0x40 and 0x80
abbrev pub state_by : Polarity → List ℕ → Option FileState
state_by polarity r = counted_state polarity (state_at r)

-- the size of the file r: Size, or ExtendedSize if Size is 0
abbrev pub file_size : List ℕ → ℕ
file_size r =
    if not (le_at 20 3 r == 0) then le_at 20 3 r else (if nat_lt (length r) 32 then 0 else le_at 24 8 r)

-- the file r of this type counts: its data are valid, and it is not a pad. A file has at least 24 bytes
abbrev pub file_counts : Polarity → ℕ → List ℕ → Bool
file_counts polarity code r =
    not (nat_lt (length r) 24) && (is_valid_state (state_by polarity r) && not (code == pad_kind))

-- the role of a file, a pad, a deleted file or an unfinished file, if it is not superseded
abbrev pub file_role : Option Around → ℕ → ℕ → List ℕ → Role
file_role (Some (arounds.Volume start polarity)) code offset r =
    if file_counts polarity code r then roles.Through (arounds.File offset (file_size r)) else roles.Out
file_role _ code offset r = roles.Out

-- ---- sections (section 3.2.4)

-- a packed section is opened, if it can be, and any other section is read
abbrev pub section_role : ℕ → Role
section_role code = if is_packed code then roles.Packed else roles.Through arounds.Section

-- ---- leaf rows

-- all bytes are erased
abbrev pub is_erased : List ℕ → Bool
is_erased r = all_are 255 r || all_are 0 r

-- the bytes between volumes count, unless they are erased
abbrev pub gap_role : List ℕ → Role
gap_role r = if is_erased r then roles.Out else roles.Whole

-- a filler at this offset is a part of a stream of sections, so it is between two sections or after the last: it is in
-- no row, in a section, or in a file before the end of its data
abbrev pub is_in_stream : Option Around → ℕ → Bool
is_in_stream None offset = true
is_in_stream (Some arounds.Section) offset = true
is_in_stream (Some (arounds.File start size)) offset = nat_lt (offset - start) size
is_in_stream (Some _) offset = false

-- a filler in a stream of sections counts, unless it follows a packed section: its length follows from how the section
-- is packed. The last row before it that contains rows is `before`
abbrev pub filler_role : Option Around → Option Around → ℕ → Role
filler_role parent before offset =
    if is_in_stream parent offset && not (is_outside before) then roles.Whole else roles.Out

-- ---- rows

-- the role of a row of this kind, with this row around it and this row before it, that is not outside
abbrev pub role_as : RowKind → Option Around → Option Around → Row → List ℕ → Role
role_as kinds.Volume parent before row r =
    if row.found then found_role parent row.offset r else roles.Through (around_volume row.offset r)
role_as kinds.File parent before row r = file_role parent row.code row.offset r
role_as kinds.Section parent before row r = section_role row.code
role_as kinds.Lost parent before row r = roles.Through arounds.Lost
role_as kinds.Gap parent before row r = gap_role r
role_as kinds.Filler parent before row r = filler_role parent before row.offset
role_as kinds.Pad parent before row r = roles.Out
role_as kinds.PadData parent before row r = roles.Out
role_as kinds.Dead parent before row r = roles.Out
role_as kinds.Stub parent before row r = roles.Out
role_as kinds.Free parent before row r = roles.Out
role_as kinds.Between parent before row r = roles.Out
role_as _ parent before row r = roles.Whole

-- the role of a row of the bytes b, after the rows that these are around, if it is not a superseded file
abbrev pub role_of : List Around → List ℕ → Row → Role
role_of around b row =
    if is_outside (around_at around row.depth) then roles.Out
    else role_as row.kind (around_at around row.depth) (slice_get around row.depth) row (bytes_of_row b row)

-- what a row with this role is for the rows in it: they count only if the row is read through, and a part covers them if
-- the row is one
abbrev pub around_in : Role → Around
around_in (roles.Through a) = a
around_in roles.Out = arounds.Outside
around_in _ = arounds.Covered

-- the rows around the next row
abbrev pub around_after : List Around → Row → Role → List Around
around_after around row role =
    if is_leaf row.kind then around else take row.depth around ++ (around_in role ∷ [])

-- ---- what a part says

-- what a part of this kind with these bytes says. The header of a volume says all but its checksum and ExtHeaderOffset.
-- The header of a file says its name, its type, and its attributes without 0x01 (FFS_ATTRIB_LARGE_FILE). The header of a
-- section says its type and its own length. A filler says how many bytes it has. All others say their bytes
abbrev pub says : RowKind → List ℕ → List (List ℕ)
says kinds.VolumeHeader r = take 50 r ∷ drop 54 r ∷ []
says kinds.FileHeader r = take 16 r ∷ (slice_index r 18 ∷ without_large (slice_index r 19) ∷ []) ∷ []
says kinds.SectionHeader r = (slice_index r 3 ∷ length r ∷ []) ∷ []
says kinds.Filler r = (length r ∷ []) ∷ []
says _ r = r ∷ []

-- ---- bytes outside of the meaning

-- rows of this kind can hold bytes outside of the meaning: they are neither headers nor erased, and have no rows in them
abbrev pub can_be_aside : RowKind → Bool
can_be_aside kinds.PadData = true
can_be_aside kinds.Dead = true
can_be_aside kinds.Stub = true
can_be_aside kinds.Filler = true
can_be_aside kinds.Between = true
can_be_aside kinds.Data = true
can_be_aside kinds.Body = true
can_be_aside kinds.Store = true
can_be_aside kinds.Unread = true
can_be_aside kinds.Packed = true
can_be_aside _ = false

-- a part covers the row
abbrev pub is_covered : Option Around → Bool
is_covered (Some arounds.Covered) = true
is_covered _ = false

-- a row of the bytes b that does not count, after the rows that these are around, has bytes outside of the meaning that
-- are not all erased
abbrev pub is_aside : List Around → List ℕ → Row → Bool
is_aside around b row =
    can_be_aside row.kind && (not (is_covered (around_at around row.depth)) && not (is_erased (bytes_of_row b row)))
