-- Proves that the rows of a part at another depth are the same rows, as much deeper (`sections_deeper`).
use Rattle.std.proofs.Common.{◌≡◌, ◌+◌, ℕ, map, refl, arith}
use Rattle.fv_base.proofs.Laws.{map-append}
use Rattle.fv_tree.specs.Words.{Meaning, Volume, FileMeanings, NoFiles, MoreFiles, FileMeaning, File, ContentMeaning, Plain, Sectioned}
use Rattle.fv_tree.specs.Words.{SectionMeanings, NoSections, MoreSections, SectionMeaning, Section, BodyMeaning, Leaf, Group, Nested}
use Rattle.fv_rows.specs.Words.{rows_of_volume, rows_of_files, rows_of_file, rows_in_content, rows_of_sections, rows_of_section, rows_in_body}
use Rattle.fv_c.specs.ReportedSections.{deeper_row}

-- the rows of a part that is d rows and n sections deeper
mutual
  volume_deeper : (d n a b : ℕ) (v : Meaning) → rows_of_volume (d + a) (n + b) v ≡ map (deeper_row d n) (rows_of_volume a b v)
  volume_deeper d n a b (Volume h files) =
      let under : d + a + 1 ≡ d + (a + 1) = omega arith in rw (under, files_deeper d n (a + 1) b 0 files)

  files_deeper : (d n a b i : ℕ) (fs : FileMeanings) → rows_of_files (d + a) (n + b) i fs ≡ map (deeper_row d n) (rows_of_files a b i fs)
  files_deeper d n a b i NoFiles = refl
  files_deeper d n a b i (MoreFiles f fs) =
      rw (map-append (deeper_row d n) (rows_of_file a b i f) (rows_of_files a b (i + 1) fs), file_deeper d n a b i f, files_deeper d n a b (i + 1) fs)

  file_deeper : (d n a b i : ℕ) (f : FileMeaning) → rows_of_file (d + a) (n + b) i f ≡ map (deeper_row d n) (rows_of_file a b i f)
  file_deeper d n a b i (File name kind attributes content) =
      let under : d + a + 1 ≡ d + (a + 1) = omega arith in rw (under, content_deeper d n (a + 1) b content)

  content_deeper : (d n a b : ℕ) (c : ContentMeaning) → rows_in_content (d + a) (n + b) c ≡ map (deeper_row d n) (rows_in_content a b c)
  content_deeper d n a b (Plain bytes) = refl
  content_deeper d n a b (Sectioned ss tail) = sections_deeper d n a b 0 ss

  pub sections_deeper : (d n a b i : ℕ) (ss : SectionMeanings)
      → rows_of_sections (d + a) (n + b) i ss ≡ map (deeper_row d n) (rows_of_sections a b i ss)
  sections_deeper d n a b i NoSections = refl
  sections_deeper d n a b i (MoreSections s ss) =
      rw (
        map-append (deeper_row d n) (rows_of_section a b i s) (rows_of_sections a b (i + 1) ss),
        section_deeper d n a b i s,
        sections_deeper d n a b (i + 1) ss,
      )

  section_deeper : (d n a b i : ℕ) (s : SectionMeaning) → rows_of_section (d + a) (n + b) i s ≡ map (deeper_row d n) (rows_of_section a b i s)
  section_deeper d n a b i (Section kind extended body) =
      let under : d + a + 1 ≡ d + (a + 1) = omega arith in
      let inside : n + b + 1 ≡ n + (b + 1) = omega arith in rw (under, inside, body_deeper d n (a + 1) (b + 1) body)

  body_deeper : (d n a b : ℕ) (c : BodyMeaning) → rows_in_body (d + a) (n + b) c ≡ map (deeper_row d n) (rows_in_body a b c)
  body_deeper d n a b (Leaf bytes) = refl
  body_deeper d n a b (Group ss tail) = sections_deeper d n a b 0 ss
  body_deeper d n a b (Nested v) = volume_deeper d n a b v
