-- Proves that each row of a volume is followed by the rows of its contents (`rows_followed`). Proves also that the
-- volumes among the rows of a volume, and among the rows inside a file or a section, are the volumes in this part
-- (`tree_volumes`, `file_inside`, `section_inside`).
use Rattle.std.proofs.Common.{◌≡◌, ◌≤◌, ◌∙◌, ◌+◌, ℕ, zero, suc, List, [], ◌∷◌, ◌++◌, length, refl, sym, ap, subst, arith, append_assoc, append-nil, zero-add}
use Rattle.std.proofs.Math.Nat.{add-zero}
use Rattle.std.proofs.lemmas.List.{map-id}
use Rattle.fv_base.proofs.Laws.{length-append, map, map-append}
use Rattle.fv_tree.specs.Words.{Meaning, Volume, FileMeanings, NoFiles, MoreFiles, FileMeaning, File, ContentMeaning, Plain, Sectioned}
use Rattle.fv_tree.specs.Words.{SectionMeanings, NoSections, MoreSections, SectionMeaning, Section, BodyMeaning, Leaf, Group, Nested}
use Rattle.fv_tree.specs.Words.{Inside, deeper, volumes_in, volumes_in_files, volumes_in_file, volumes_in_content, volumes_in_sections}
use Rattle.fv_tree.specs.Words.{volumes_in_section, volumes_in_body, body_of, content_of, sections_from}
use Rattle.fv_rows.specs.Words.{FileNode, SectionNode, TreeRow, rows_of_volume, rows_of_files, rows_of_file, rows_in_content, rows_of_sections, rows_of_section}
use Rattle.fv_rows.specs.Words.{rows_in_body, tree_rows, rows_inside, NodeMeaning, VolumeNode, nesting_inside, parts_in, rows_of_nodes}
use Rattle.fv_rows.proofs.RowWalkLaws.{inside_rows, stream_rows, volume_rows}
use Rattle.fv_rows.specs.inner.RowVolumes.{Followed, deeper_by, volumes_of}

-- ---- the rows that follow a row

-- each row of some parts is followed by the rows of its contents. `most` is at least the number of the rows
followed_nodes : (most d n i : ℕ) (nodes : List NodeMeaning) (more : List TreeRow) → length (rows_of_nodes d n i nodes) ≤ most → Followed more
    → Followed (rows_of_nodes d n i nodes ++ more)
followed_nodes most d n i [] more few next = next
followed_nodes zero d n i (node ∷ nodes) more few next = absurd (omega (arith, few))
followed_nodes (suc most) d n i (node ∷ nodes) more few next =
    let inside : List TreeRow = rows_inside (d + 1) (nesting_inside n node) node in
    let rest : List TreeRow = rows_of_nodes d n (i + 1) nodes in
    let own : inside ≡ rows_of_nodes (d + 1) (nesting_inside n node) 0 (parts_in node) = inside_rows _ _ node in
    let long = length-append inside rest in (
      (rest ++ more, append_assoc inside rest more),
      rw (append_assoc inside rest more, own) (followed_nodes most (d + 1) (nesting_inside n node) 0 (parts_in node) (rest ++ more)
          (omega (arith, few, long, ap length own)) (followed_nodes most d n (i + 1) nodes more (omega (arith, few, long)) next)),
    )

pub rows_followed : (m : Meaning) → Followed (tree_rows m)
rows_followed m =
    let rows : List TreeRow = rows_of_nodes 0 0 0 (VolumeNode m ∷ []) in
    subst Followed (append-nil rows ∙ sym (volume_rows 0 0 m)) (followed_nodes (length rows) 0 0 0 (VolumeNode m ∷ []) [] (omega arith) tt)

-- so is each row of a stream
pub stream_followed : (ss : List SectionMeaning) → Followed (rows_of_sections 0 0 0 (sections_from ss))
stream_followed ss =
    let rows : List TreeRow = rows_of_nodes 0 0 0 (map SectionNode ss) in
    subst Followed (append-nil rows ∙ sym (stream_rows ss)) (followed_nodes (length rows) 0 0 0 (map SectionNode ss) [] (omega arith) tt)

-- ---- the volumes among the rows

-- one level deeper, and then n levels deeper, is n + 1 levels deeper
one_deeper : (n : ℕ) (vs : List Inside) → deeper_by n (deeper vs) ≡ deeper_by (n + 1) vs
one_deeper n [] = refl
one_deeper n (v ∷ vs) = let same : v.depth + 1 + n ≡ v.depth + (n + 1) = omega arith in rw (same, one_deeper n vs)

-- each of these laws is about the rows of a part, or of the parts inside it, followed by further rows `more`. The volumes
-- among all these rows are the volumes in the part, and then the volumes among `more`. The part has n sections around it,
-- so its volumes are n levels deeper among the rows than in the part
mutual
  pub volume_volumes : (d n : ℕ) (v : Meaning) (more : List TreeRow)
      → volumes_of (rows_of_volume d n v ++ more) ≡ deeper_by n (volumes_in v) ++ volumes_of more
  volume_volumes d n (Volume h files) more =
      simp (zero-add, files_volumes (d + 1) n 0 files more)

  pub files_volumes : (d n i : ℕ) (fs : FileMeanings) (more : List TreeRow)
      → volumes_of (rows_of_files d n i fs ++ more) ≡ deeper_by n (volumes_in_files fs) ++ volumes_of more
  files_volumes d n i NoFiles more = refl
  files_volumes d n i (MoreFiles f fs) more =
      simp (append_assoc, map-append, file_volumes d n i f, files_volumes d n (i + 1) fs)

  file_volumes : (d n i : ℕ) (f : FileMeaning) (more : List TreeRow)
      → volumes_of (rows_of_file d n i f ++ more) ≡ deeper_by n (volumes_in_file f) ++ volumes_of more
  file_volumes d n i (File name kind attributes content) more = content_volumes (d + 1) n content more

  pub content_volumes : (d n : ℕ) (c : ContentMeaning) (more : List TreeRow)
      → volumes_of (rows_in_content d n c ++ more) ≡ deeper_by n (volumes_in_content c) ++ volumes_of more
  content_volumes d n (Plain b) more = refl
  content_volumes d n (Sectioned ss tail) more = sections_volumes d n 0 ss more

  sections_volumes : (d n j : ℕ) (ss : SectionMeanings) (more : List TreeRow)
      → volumes_of (rows_of_sections d n j ss ++ more) ≡ deeper_by n (volumes_in_sections ss) ++ volumes_of more
  sections_volumes d n j NoSections more = refl
  sections_volumes d n j (MoreSections s ss) more =
      simp (append_assoc, map-append, section_volumes d n j s, sections_volumes d n (j + 1) ss)

  section_volumes : (d n j : ℕ) (s : SectionMeaning) (more : List TreeRow)
      → volumes_of (rows_of_section d n j s ++ more) ≡ deeper_by n (volumes_in_section s) ++ volumes_of more
  section_volumes d n j (Section kind extended body) more =
      rw (one_deeper n (volumes_in_body body)) (body_volumes (d + 1) (n + 1) body more)

  body_volumes : (d n : ℕ) (b : BodyMeaning) (more : List TreeRow)
      → volumes_of (rows_in_body d n b ++ more) ≡ deeper_by n (volumes_in_body b) ++ volumes_of more
  body_volumes d n (Leaf b) more = refl
  body_volumes d n (Group ss tail) more = sections_volumes d n 0 ss more
  body_volumes d n (Nested v) more = volume_volumes d n v more

-- the volumes among all rows of a volume, and among the rows inside a file or a section, are the volumes in this part
pub tree_volumes : (m : Meaning) → volumes_of (tree_rows m) ≡ volumes_in m
tree_volumes m = simp (append-nil, add-zero, map-id) at (volume_volumes 0 0 m [])

pub file_inside : (f : FileMeaning) → volumes_of (rows_inside 0 0 (FileNode f)) ≡ volumes_in_content (content_of f)
file_inside (File name kind attributes content) = simp (append-nil, add-zero, map-id) at (content_volumes 0 0 content [])

pub section_inside : (s : SectionMeaning) → volumes_of (rows_inside 0 0 (SectionNode s)) ≡ volumes_in_body (body_of s)
section_inside (Section kind extended body) = simp (append-nil, add-zero, map-id) at (body_volumes 0 0 body [])

-- the volumes among all rows of a stream are the volumes in its sections
pub stream_volumes : (ss : SectionMeanings) → volumes_of (rows_of_sections 0 0 0 ss) ≡ volumes_in_sections ss
stream_volumes ss = simp (append-nil, add-zero, map-id) at (content_volumes 0 0 (Sectioned ss 0) [])
