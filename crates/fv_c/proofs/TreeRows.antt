-- Proves that the row of a part says where the part lies (`lies_in`), that the next section begins at the next multiple
-- of 4 after the part (`begins_next`), and that the first row reports the volume (`whole_found`). The steps:
-- 1. A frame of a stream begins at the next multiple of 4 after the frame before it (`next_begins`).
-- 2. Part number i in a row is a file of a volume, a section of a stream, or the volume of a section (`contents`).
-- 3. The body of a frame lies in the stream (`frame_in_stream`). Bytes that lie in a part lie in the input (`part_of`).
use Rattle.std.proofs.Common.{◌≡◌, ◌∙◌, ℕ, zero, suc, ◌+◌, ◌-◌, ◌≤◌, List, [], ◌∷◌, ◌++◌, length, take, drop, Some, refl, sym, ap, subst, arith, inl, inr}
use Rattle.std.proofs.lemmas.Grind.{common_steps}
use Rattle.std.proofs.lemmas.Option.{get_or_from_slice_get, gets, slice_get-map, slice_get_within}
use Rattle.std.specs.Prelude.{slice_get, map}
use Rattle.std.specs.List.{AllByRecursion}
use Rattle.std.proofs.lemmas.List.{drop_more, length-drop, length-take-le, take_all}
use Rattle.std.proofs.Math.Seq.{take-append_seam, drop-append_seam}
use Rattle.fv_base.specs.Words.{field, depth_limit}
use Rattle.fv_base.proofs.Laws.{at_index, bytes_drop, bytes_take, cases_lt, field-take}
use Rattle.fv_section.specs.Words.{FrameForm, HasFrameAt, Splits, SplitsFrom, frame_len, section_header_len, up_to_4}
use Rattle.fv_section.proofs.Laws.{one_split, split_stands, stands_within}
use Rattle.fv_tree.specs.Words.{Accepted, BeginWithFiles, FileForm, File, Meaning, Volume, MeansFile, MeansSection}
use Rattle.fv_tree.specs.Words.{Pairwise, Plain, Sectioned, SectionMeaning, SectionMeanings, Section, Leaf, Group, Nested, Stream, HasDataIn, section_is_extended}
use Rattle.fv_tree.specs.Words.{body_len, body_of, body_place, data_place, file_form, files_of, length_of, sections_list}
use Rattle.fv_tree.proofs.Laws.{begun_data, body_long, content_long, one_files, volume_files}
use Rattle.fv_rows.specs.Words.{NodeMeaning, VolumeNode, FileNode, SectionNode, parts_in}
use Rattle.fv_c.specs.ReportedTree.{IsFileIn, IsNodeIn, IsPartPlaced, IsSectionIn, bytes_at, reported_node}
use Rattle.fv_c.specs.ReportedSections.{IsStreamNodeIn, stream_node}
use Rattle.fv_c.specs.TreeParts.{NodeRow}
use Rattle.fv_c.specs.declared.tree.FvNode.{FvNode}
use Rattle.fv_c.specs.declared.tree.Holder.{Holder}
use Rattle.fv_c.specs.inner.Trees.{Contents, HasFileNumber, HoldsIn, IsHolder, node_in, row_in, whole_node, whole_row}
use Rattle.fv_canon.proofs.Laws.{accepted, sections_more, stream_more}

-- ---- lists

all_at : {A : Type 0} (P : A → Type 0) (xs : List A) (i : ℕ) (x : A) → AllByRecursion P xs → slice_get xs i ≡ Some x → P x
all_at P xs i x all is = subst P (get_or_from_slice_get xs i x x is) (at_index P xs i x all (slice_get_within xs i x is))

-- if a list without its first i items is x and the items ys, x is item i, and ys are the items after it
pub first_item : {X : Type 0} (xs ys : List X) (i : ℕ) (x : X) → drop i xs ≡ x ∷ ys → (slice_get xs i ≡ Some x) × (drop (i + 1) xs ≡ ys)
first_item xs ys i x is =
    let at : slice_get xs i ≡ Some x = grind (arith, common_steps, gets) in
    let all = drop_more xs i x (slice_get_within xs i x at) in (at, cc)

pub get_later : {X : Type 0} (xs ys : List X) (i : ℕ) (x : X) → slice_get xs i ≡ Some x → slice_get (xs ++ ys) i ≡ Some x
get_later xs ys i x is = grind (arith, common_steps, gets)

pub get_map : {A B : Type 0} (g : A → B) (xs : List A) (i : ℕ) (y : B) → slice_get (map g xs) i ≡ Some y
    → (x : A) × (slice_get xs i ≡ Some x) × (y ≡ g x)
get_map g xs i y is = grind (arith, common_steps, gets, slice_get-map)

only_item : {A : Type 0} (x y : A) (i : ℕ) → slice_get (x ∷ []) i ≡ Some y → x ≡ y
only_item x y i is = grind (arith, common_steps, gets)

-- the item that is paired with item i of the second list
pair_at : {A B : Type 0} (R : A → B → Type 0) (xs : List A) (ys : List B) (i : ℕ) (y : B) → Pairwise R xs ys → slice_get ys i ≡ Some y
    → (x : A) × (slice_get xs i ≡ Some x) × R x y
pair_at R [] [] i y p is = cc
pair_at R (x ∷ xs) (z ∷ ys) zero y p is = let same : z ≡ y = cc in (x, refl, subst (R x) same p.0)
pair_at R (x ∷ xs) (z ∷ ys) (suc i) y p is = pair_at R xs ys i y p.1 is
pair_at R _ _ i y p is = absurd p

-- ---- the frames of a stream

-- the first frame begins at the offset of the stream
pub first_begins : (at : ℕ) (b : List ℕ) (frames : List FrameForm) (tail : ℕ) (f : FrameForm) → SplitsFrom at frames tail b
    → slice_get frames 0 ≡ Some f → f.offset ≡ at
first_begins at b [] tail f split is = cc
first_begins at b (g ∷ []) tail f (rest, begun, o, l, fits) is = cc
first_begins at b (g ∷ h ∷ frames) tail f (filler, rest, begun, o, fill, more) is = cc

-- a frame begins at the next multiple of 4 after the frame before it
next_begins : (at : ℕ) (frames : List FrameForm) (tail i : ℕ) (b : List ℕ) (f g : FrameForm) → SplitsFrom at frames tail b
    → slice_get frames i ≡ Some f → slice_get frames (suc i) ≡ Some g → g.offset ≡ up_to_4 (f.offset + frame_len f)
next_begins at (x ∷ y ∷ frames) tail zero b f g (filler, rest, begun, o, fill, more) is next =
    let first = first_begins (up_to_4 (at + frame_len x)) rest (y ∷ frames) tail g more next in cc
next_begins at (x ∷ y ∷ frames) tail (suc i) b f g (filler, rest, begun, o, fill, more) is next =
    next_begins (up_to_4 (at + frame_len x)) (y ∷ frames) tail i rest f g more is next
next_begins at _ tail i b f g split is next = cc

-- ---- what a row holds

-- the bytes of the row are the part: a volume, the data of a file, or the body of a section
abbrev pub Lies : (input : List ℕ) (row : FvNode) → NodeMeaning → Type 0
Lies input row (VolumeNode m) = Accepted (bytes_at input row) m
Lies input row (FileNode f) = (holder : FvNode) × IsFileIn input holder row f
Lies input row (SectionNode s) = (holder : FvNode) × IsSectionIn input holder row s

placed_lies : (input : List ℕ) (rows : List FvNode) (row : FvNode) (node : NodeMeaning) → IsPartPlaced input rows row node → Lies input row node
placed_lies input rows row (VolumeNode m) placed = placed.0
placed_lies input rows row (FileNode f) (holder, at, file) = (holder, file)
placed_lies input rows row (SectionNode s) (holder, at, section) = (holder, section)

-- the row of a part in a tree, and the row of a part in a stream, describe the bytes of the part
tree_lies : {input : List ℕ} {rows : List FvNode} {row : FvNode} {r : NodeRow} → IsNodeIn input rows row r → Lies input row r.node
tree_lies {input} {rows} {row} {r} own = placed_lies input rows row r.node own.placed

pub stream_lies : {input : List ℕ} {rows : List FvNode} {row : FvNode} {r : NodeRow} → IsStreamNodeIn input rows row r → Lies input row r.node
stream_lies {input} {rows} {row} {r} own = elim (cases_lt 0 row.depth) [
  | inl deep ↦ placed_lies input rows row r.node (own.inner (λ none. omega (arith, deep, none)))
  | inr flat ↦ let (s, is, section) = own.outer (omega (arith, flat)) in rw is (stream_node input, section)
]

module _ {input : List ℕ} {row : FvNode} where
  no_parts : row.content ≡ 1 → Contents input row []
  no_parts k = record { volume = λ e. absurd (omega (arith, k, e)); none = λ _. refl; part = λ i node is. cc }

  sections : (ss : SectionMeanings) (tail : ℕ) → row.content ≡ 2 → Stream depth_limit (sections_list ss) tail (bytes_at input row)
      → Contents input row (map SectionNode (sections_list ss))
  sections ss tail k stream = record {
    volume = λ e. absurd (omega (arith, k, e));
    none = λ e. absurd (omega (arith, k, e));
    part = λ i node is. let (s, at, same) = get_map SectionNode (sections_list ss) i node is in rw same (k, sections_list ss, tail, stream, at);
  }

  -- a row holds the parts in its part
  contents_of : (r : NodeRow) → row ≡ reported_node row.offset row.header_length r r.node → Lies input row r.node
      → Contents input row (parts_in r.node)
  contents_of r is lies = go r.node (ap (λ (x : FvNode). x.content) is) (ap (λ (x : FvNode). x.length) is) lies where
    go : (node : NodeMeaning) → row.content ≡ (reported_node row.offset row.header_length r node).content
        → row.length ≡ (reported_node row.offset row.header_length r node).length → Lies input row node → Contents input row (parts_in node)
    go (VolumeNode m) k long accepted = record {
      volume = λ _. (m, accepted);
      none = λ e. absurd (omega (arith, k, e));
      part = λ i node is. let (f, at, same) = get_map FileNode (files_of m) i node is in rw same (k, m, accepted, at);
    }
    go (FileNode (File name kind attributes (Plain b))) k long at = no_parts k
    go (FileNode (File name kind attributes (Sectioned ss tail))) k long (holder, file) = sections ss tail k (rw file.payload file.means.3.1)
    go (SectionNode (Section kind extended (Leaf b))) k long at = no_parts k
    go (SectionNode (Section kind extended (Group ss tail))) k long (holder, section) =
        sections ss tail k (rw section.body (stream_more (MeansSection 7) (MeansSection 8) (sections_more 7) (sections_list ss) tail section.frame.body section.means.2.1))
    go (SectionNode (Section kind extended (Nested m))) k long (holder, section) = record {
      volume = λ e. absurd (omega (arith, k, e));
      none = λ e. absurd (omega (arith, k, e));
      part = λ i node is. rw (← only_item (VolumeNode m) node i is)
          (k, long, λ bytes. accepted 7 (bytes_at input row) m bytes (omega arith) (rw section.body section.means.2.2));
    }

-- so the row of a part in a tree, and the row of a part in a stream, hold the parts in its part
pub tree_contents : {input : List ℕ} {rows : List FvNode} {row : FvNode} {r : NodeRow} → IsNodeIn input rows row r
    → Contents input row (parts_in r.node)
tree_contents {input} {rows} {row} {r} own = contents_of r own.is (tree_lies own)

pub contents : {input : List ℕ} {rows : List FvNode} {row : FvNode} {r : NodeRow} → IsStreamNodeIn input rows row r
    → Contents input row (parts_in r.node)
contents {input} {rows} {row} {r} own = contents_of r own.is (stream_lies own)

-- ---- where a part lies

-- the bytes are in the input at this offset
abbrev LieAt : List ℕ → ℕ → List ℕ → Type 0
LieAt input at b = (at + length b ≤ length input) × (field at (length b) input ≡ b)

-- bytes at offset i of a part that lies at `at` are at offset at + i of the input
part_of : (input : List ℕ) (at n i : ℕ) (b : List ℕ) → at + n ≤ length input → LieAt (field at n input) i b → LieAt input (at + i) b
part_of input at n i b within (inside, is) =
    let long = length-take-le n (drop at input) (omega (arith, within, length-drop at input)) in
    let short : i + length b ≤ n = omega (arith, inside, long) in
    let moved : drop i (drop at input) ≡ drop (at + i) input = grind (arith, common_steps) in (
      omega (arith, short, within),
      sym (ap (λ (l : List ℕ). take (length b) l) moved) ∙ sym (field-take i (length b) n (drop at input) short) ∙ is,
    )

-- the body of a frame in a stream lies after the frame's header
frame_in_stream : (f : FrameForm) (b : List ℕ) → HasFrameAt f f.offset b → LieAt b (body_place f) f.body
frame_in_stream f b s =
    let h = s.begins.head in
    let whole : length h ≡ section_header_len f.extended = s.begins.is_header.header_length in
    let cut : drop (length h) (drop f.offset b) ≡ f.body ++ s.rest = rw s.begins.text (drop-append_seam h (f.body ++ s.rest)) in
    let moved : drop (length h) (drop f.offset b) ≡ drop (body_place f) b = grind (arith, common_steps, whole) in (
      omega (arith, stands_within f b f.offset s),
      ap (λ (l : List ℕ). take (length f.body) l) (sym moved ∙ cut) ∙ take-append_seam f.body s.rest,
    )

-- a frame has the header form of its section, and its body has the length of the section's body
section_fits : (f : FrameForm) (s : SectionMeaning) → MeansSection depth_limit f s
    → (section_is_extended s ≡ f.extended) × (length f.body ≡ body_len (body_of s))
section_fits f (Section kind extended body) means =
    (means.1, body_long depth_limit f kind body (rw means.1 at means))

-- if the row holds sections, section number i begins at this offset in the bytes of the row
abbrev pub BeginsAt : (input : List ℕ) → FvNode → ℕ → ℕ → Type 0
BeginsAt input row i next =
    row.content ≡ 2 → (frames : List FrameForm) (tail : ℕ) (f : FrameForm) → Splits frames tail (bytes_at input row) → slice_get frames i ≡ Some f
    → f.offset ≡ next

-- this is the row of the holder. Its section number i begins at `next`
module _ {input : List ℕ} {holder : Holder} {nodes : List NodeMeaning} {row : FvNode} (holds : HoldsIn input holder nodes row) (i next : ℕ)
    (begins : BeginsAt input row i next) where
  abbrev b : List ℕ
  b = bytes_at input row

  -- parts of depth 0 are sections
  only_sections : {rows : List FvNode} → IsHolder input rows holder row → (content : ℕ) → row.content ≡ content → (content ≡ 2 → ⊥)
      → holder.depth ≡ 0 → ⊥
  only_sections at content k other none = other (sym k ∙ ap (λ (x : FvNode). x.content) (at.outer none))

  -- if part number i is a file, the holder stores this file. The row `node_in` says where the part lies
  pub lies_in : {rows : List FvNode} → IsHolder input rows holder row → (node : NodeMeaning) → slice_get nodes i ≡ Some node
      → HasFileNumber holder i node × IsStreamNodeIn input rows (node_in holder i next node) (row_in holder i node)
  lies_in at (VolumeNode m) is =
      let (k, long, means) = holds.contents.part i (VolumeNode m) is in (
        tt,
        record {
          is = refl;
          within = omega (arith, holds.within, holds.offset, long);
          outer = λ none. absurd (only_sections at 3 k (λ e. omega (arith, e)) none);
          inner = λ ne. (
            rw (holds.offset, long) at (means (bytes_take row.length (drop row.offset input) (bytes_drop row.offset input holds.bytes))),
            λ none. absurd (ne none),
            λ _. (row, at.inner ne, sym holds.offset),
          );
        },
      )
  lies_in at (FileNode (File name kind attributes content)) is =
      let (k, m, accepted, of_volume) = holds.contents.part i _ is in
      let forms : List FileForm = map (file_form b) holder.files.items in
      let begun : BeginWithFiles b forms = holds.files k in
      let pairs : Pairwise (MeansFile (Stream depth_limit)) forms (files_of m) =
      rw (one_files b forms accepted.1.files begun (volume_files depth_limit b m accepted.1)) at accepted.1.meanings in
      let (g, found, meant) = pair_at (MeansFile (Stream depth_limit)) forms (files_of m) i _ pairs of_volume in
      let (l, at_file, same) = get_map (file_form b) holder.files.items i g found in
      let form : FileForm = file_form b l in
      let at_form : slice_get forms i ≡ Some form = rw same at found in
      let means : MeansFile (Stream depth_limit) form (File name kind attributes content) = rw same at meant in
      let lies : LieAt input (row.offset + data_place form) form.payload =
      part_of input row.offset row.length (data_place form) form.payload holds.within (all_at (HasDataIn b) forms i form (begun_data b forms begun) at_form) in
      let long = content_long depth_limit form name kind attributes content means in (
        slice_get_within holder.files.items i l at_file,
        rw (at_file, ← holds.offset) (record {
          is = refl;
          within = omega (arith, lies.0, long);
          outer = λ none. absurd (only_sections at 0 k (λ e. omega (arith, e)) none);
          inner = λ ne. (
            row,
            at.inner ne,
            record {
              files = forms;
              volume = begun;
              file = form;
              is = at_form;
              offset = refl;
              header = refl;
              payload = rw (← long) lies.1;
              means = means;
            },
          );
        }),
      )
  lies_in at (SectionNode s) is =
      let (k, ss, tail, (frames, split, pairs), in_stream) = holds.contents.part i (SectionNode s) is in
      let (f, at_frame, means) = pair_at (MeansSection depth_limit) frames ss i s pairs in_stream in
      let lies : LieAt input (row.offset + body_place f) f.body = part_of input row.offset row.length (body_place f) f.body holds.within
      (frame_in_stream f b (all_at (λ g. HasFrameAt g g.offset b) frames i f (split_stands frames tail b split) at_frame)) in
      let (form, long) = section_fits f s means in
      let place : holder.offset + (next + section_header_len (section_is_extended s)) ≡ row.offset + body_place f =
      omega (arith, holds.offset, begins k frames tail f split at_frame, ap section_header_len form) in (
        tt,
        rw place (
            let own : FvNode = reported_node (row.offset + body_place f) 0 (row_in holder i (SectionNode s)) (SectionNode s) in
            let section : IsSectionIn input row own s = record {
              frames = frames;
              tail = tail;
              stream = split;
              frame = f;
              is = at_frame;
              offset = refl;
              body = rw (← long) lies.1;
              means = means;
            } in
            record {
              is = refl;
              within = omega (arith, lies.0, long);
              outer = λ none. (s, refl, subst (λ (h : FvNode). IsSectionIn input h own s) (at.outer none) section);
              inner = λ ne. (row, at.inner ne, section);
            }
            ),
      )

  -- the next section begins at the next multiple of 4 after the part
  pub begins_next : (node : NodeMeaning) → slice_get nodes i ≡ Some node
      → BeginsAt input row (i + 1) (up_to_4 ((node_in holder i next node).offset - holder.offset + (node_in holder i next node).length))
  begins_next (VolumeNode m) is = λ two. absurd (omega (arith, two, (holds.contents.part i (VolumeNode m) is).0))
  begins_next (FileNode f) is = λ two. absurd (omega (arith, two, (holds.contents.part i (FileNode f) is).0))
  begins_next (SectionNode s) is = λ two frames tail g split at_next.
      let (k, ss, last, (others, other, pairs), in_stream) = holds.contents.part i (SectionNode s) is in
      let pairs' = rw (one_split 0 others frames last tail b other split).0 at pairs in
      let (f, at_frame, means) = pair_at (MeansSection depth_limit) frames ss i s pairs' in_stream in
      let (form, long) = section_fits f s means in
      let one : i + 1 ≡ suc i = omega arith in
      next_begins 0 frames tail i b f g split at_frame (rw one at at_next)
      ∙ ap up_to_4 (omega (arith, begins two frames tail f split at_frame, ap section_header_len form, long))

-- ---- the volume that is the whole input

-- the volume is as long as the input
whole : (input : List ℕ) (m : Meaning) → Accepted input m → length_of m ≡ length input
whole input (Volume head files) accepted = sym (accepted.1.length_is ∙ accepted.1.begins.length_is)

module _ (input : List ℕ) (m : Meaning) (accepted : Accepted input m) where
  pub all_bytes : bytes_at input (whole_node m) ≡ input
  all_bytes = take_all (length_of m) input (omega (arith, whole input m accepted))

  -- the first row of a tree reports the volume
  pub whole_found : (rows : List FvNode) → IsNodeIn input rows (whole_node m) (whole_row m)
  whole_found rows = record {
    is = refl;
    within = omega (arith, whole input m accepted);
    placed = (rw all_bytes accepted, λ _. refl, λ ne. absurd (ne refl));
  }
