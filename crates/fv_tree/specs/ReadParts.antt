-- Facts about a file or a section that was read (PI specification, volume 3, sections 3.2.3 and 3.2.4).
use Rattle.std.specs.Prelude.{ℕ, ◌≤◌, List, length}
use Rattle.fv_base.specs.Words.{depth_limit, volume_limit, IsBytes}
use Rattle.fv_base.specs.declared.flash.FileSystem.{FileSystem}
use Rattle.fv_base.specs.declared.flash.Polarity.{Polarity}
use Rattle.fv_file.specs.Words.{Valid, IsCell}
use Rattle.fv_section.specs.Words.{FrameForm, HasFrameAt}
use Rattle.fv_tree.specs.Denotes.{MeansFile, MeansSection, Stream}
use Rattle.fv_tree.specs.Meaning.{FileMeaning, SectionMeaning}
use Rattle.fv_tree.specs.VolumeFiles.{FileForm}

-- some bytes are this valid file and the filler after it
abbrev pub IsStoredFile : FileForm → Type 0
IsStoredFile f =
    (system : FileSystem) × (polarity : Polarity) × (b : List ℕ) × IsBytes b × (length b ≤ volume_limit)
    × IsCell system polarity (Valid f.offset f.head f.payload) b

-- a valid file in some bytes has this meaning; this is true of every `FileView`
abbrev pub IsReadFile : FileMeaning → Type 0
IsReadFile m = (n : ℕ) × (n ≤ depth_limit) × (f : FileForm) × IsStoredFile f × MeansFile (Stream n) f m

-- some bytes contain this frame, at its offset
abbrev pub IsStoredFrame : FrameForm → Type 0
IsStoredFrame f = (b : List ℕ) × IsBytes b × (length b ≤ volume_limit) × HasFrameAt f f.offset b

-- a frame in some bytes has this meaning; this is true of every `SectionView`
abbrev pub IsReadSection : SectionMeaning → Type 0
IsReadSection m = (n : ℕ) × (n ≤ depth_limit) × (f : FrameForm) × IsStoredFrame f × MeansSection n f m
