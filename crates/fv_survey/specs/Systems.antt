-- The file systems that a survey knows (PI specification, volume 3, section 3.2.2, and the GUIDs of vendors).
use Rattle.std.specs.Prelude.{ℕ, Bool, true, false, ◌||◌, if◌then◌else◌, List, [], ◌∷◌}
use Rattle.std.specs.Str.{bytes_eq}
use Rattle.fv_base.specs.declared.flash.FileSystem.TheVariants as systems
use Rattle.fv_head.specs.Words.{system_guid}
use Rattle.fv_survey.specs.declared.systems.Files.{Files}
use Rattle.fv_survey.specs.declared.systems.Files.TheVariants as files

-- EFI_FIRMWARE_FILE_SYSTEM_GUID, the file system of the Framework specification, before FFS2
abbrev pub ffs1_guid : List ℕ
ffs1_guid =
    0xd9 ∷ 0x54 ∷ 0x93 ∷ 0x7a ∷ 0x68 ∷ 0x04 ∷ 0x4a ∷ 0x44 ∷ 0x81 ∷ 0xce ∷ 0x0b ∷ 0xf6 ∷ 0x17 ∷ 0xd8 ∷ 0x90 ∷ 0xdf ∷ []

-- the GUID of a variable store, EFI_SYSTEM_NV_DATA_FV_GUID
abbrev pub variables_guid : List ℕ
variables_guid =
    0x8d ∷ 0x2b ∷ 0xf1 ∷ 0xff ∷ 0x96 ∷ 0x76 ∷ 0x8b ∷ 0x4c ∷ 0xa9 ∷ 0x85 ∷ 0x27 ∷ 0x47 ∷ 0x07 ∷ 0x5b ∷ 0x4f ∷ 0x50 ∷ []

-- the bytes are the GUID of a vendor's file system that is read as FFS2: one of two of Apple, two of Intel and one of
-- Sony
abbrev pub is_vendors : List ℕ → Bool
is_vendors b =
    bytes_eq b (
    0xad ∷ 0xee ∷ 0xad ∷ 0x04 ∷ 0xff ∷ 0x61 ∷ 0x31 ∷ 0x4d
    ∷ 0xb6 ∷ 0xba ∷ 0x64 ∷ 0xf8 ∷ 0xbf ∷ 0x90 ∷ 0x1f ∷ 0x5a ∷ [])
    || bytes_eq b (
    0x8c ∷ 0x1b ∷ 0x00 ∷ 0xbd ∷ 0x71 ∷ 0x6a ∷ 0x7b ∷ 0x48
    ∷ 0xa1 ∷ 0x4f ∷ 0x0c ∷ 0x2a ∷ 0x2d ∷ 0xcf ∷ 0x7a ∷ 0x5d ∷ [])
    || bytes_eq b (
    0xff ∷ 0xff ∷ 0x3f ∷ 0xad ∷ 0x8b ∷ 0xd2 ∷ 0xc4 ∷ 0x44
    ∷ 0x9f ∷ 0x13 ∷ 0x9e ∷ 0xa9 ∷ 0x8a ∷ 0x97 ∷ 0xf9 ∷ 0xf0 ∷ [])
    || bytes_eq b (
    0x70 ∷ 0xcd ∷ 0xa1 ∷ 0xd6 ∷ 0x33 ∷ 0x4b ∷ 0x94 ∷ 0x49
    ∷ 0xa6 ∷ 0xea ∷ 0x37 ∷ 0x5f ∷ 0x2c ∷ 0xcc ∷ 0x54 ∷ 0x37 ∷ [])
    || bytes_eq b (
    0x56 ∷ 0x41 ∷ 0x49 ∷ 0x4f ∷ 0xd6 ∷ 0xae ∷ 0x64 ∷ 0x4d
    ∷ 0xa5 ∷ 0x37 ∷ 0xb8 ∷ 0xa5 ∷ 0x55 ∷ 0x7b ∷ 0xce ∷ 0xec ∷ [])

-- how the files of a volume with this FileSystemGuid are read
abbrev pub files_by : List ℕ → Files
files_by b =
    if bytes_eq b (system_guid systems.Ffs2) then files.Ffs2
    else (if bytes_eq b (system_guid systems.Ffs3) then files.Ffs3
    else (if bytes_eq b ffs1_guid then files.Ffs1
    else (if bytes_eq b variables_guid then files.Store
    else (if is_vendors b then files.Ffs2 else files.Unknown))))

-- the survey knows the file system
abbrev pub is_known : Files → Bool
is_known files.Unknown = false
is_known _ = true

-- a volume with this FileSystemGuid breaks no rule by it: the file system is FFS2 or FFS3, or the volume is a variable
-- store
abbrev pub is_allowed : List ℕ → Bool
is_allowed b = bytes_eq b (system_guid systems.Ffs2) || bytes_eq b (system_guid systems.Ffs3) || bytes_eq b variables_guid
