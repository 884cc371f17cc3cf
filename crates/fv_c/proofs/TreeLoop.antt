-- Proves that the recursion over the parts of a volume adds the rows of its tree (`tree_put`). The steps:
-- 1. A row still reports its part if rows are added after the row (`node_later`).
-- 2. If the row of a part is added, then the rows in the part, and then the rows of the parts after it, the rows of all
--    these parts are added (`part_added`).
-- 3. `Putting` is the invariant of the loop over the parts in a part. The row of the next part reports this part
--    (`row_found`) and holds the parts in it (`part_holds`). After this row and the rows in the part are added, the
--    invariant is true of the parts after it (`put_more`).
-- 4. The first row of the tree holds the parts of the volume (`whole_holds`). If the rows of these parts are added, the
--    rows are the tree of the volume (`tree_put`).
use Rattle.std.proofs.Common.{◌≡◌, ◌∙◌, ℕ, ◌+◌, ◌-◌, List, [], ◌∷◌, ◌++◌, length, drop, Some, refl, subst, sym}
use Rattle.std.proofs.Common.{append-nil, append_assoc, arith, length-append, map, take_all, ap, ◌≤◌, Global, Vec}
use Rattle.std.specs.List.{AllByRecursion}
use Rattle.std.specs.Prelude.{slice_get}
use Rattle.std.proofs.Math.Seq.{drop-append_seam}
use Rattle.fv_section.specs.Words.{up_to_4}
use Rattle.fv_tree.specs.Words.{Accepted, AcceptedStream, BeginWithFiles, Meaning, Pairwise, SectionMeaning, file_form}
use Rattle.fv_tree.specs.declared.volume_files.LocatedFile.{LocatedFile}
use Rattle.fv_rows.specs.Words.{PartNestsAt, NodeMeaning, VolumeNode, FileNode, SectionNode, TreeRow as Row, nesting_inside, parts_in, rows_inside, rows_of_nodes}
use Rattle.fv_rows.proofs.Laws.{inside_rows, stream_rows, volume_rows}
use Rattle.fv_c.specs.TreeParts.{NodeRow, no_parent, with_parents}
use Rattle.fv_c.specs.ReportedTree.{HasTreeRows, IsNodeIn, IsPartPlaced, bytes_at, reported_node}
use Rattle.fv_c.specs.ReportedSections.{HasSectionRows, IsStreamNodeIn, stream_node}
use Rattle.fv_c.specs.declared.tree.FvNode.{FvNode}
use Rattle.fv_c.specs.declared.tree.Holder.{Holder}
use Rattle.fv_c.specs.inner.Trees.{AreAdded, HasFileNumber, HoldsParts, RowHasFiles, depths_after, node_in, row_in, whole_node}
use Rattle.fv_canon.proofs.Laws.{pairs_more}
use Rattle.fv_c.proofs.TreeParents.{later_parts, next_parent, parents_joined}
use Rattle.fv_c.proofs.TreeRows.{BeginsAt, all_bytes, begins_next, contents, first_item, get_later, get_map, lies_in, tree_contents, whole_found}

-- ---- more rows

placed_later : (input : List ℕ) (rows more : List FvNode) (row : FvNode) (node : NodeMeaning) → IsPartPlaced input rows row node
    → IsPartPlaced input (rows ++ more) row node
placed_later input rows more row (VolumeNode m) (accepted, root, inner) =
    (accepted, root, λ ne. let (holder, at, offset) = inner ne in (holder, get_later rows more row.parent holder at, offset))
placed_later input rows more row (FileNode f) (holder, at, file) = (holder, get_later rows more row.parent holder at, file)
placed_later input rows more row (SectionNode s) (holder, at, section) = (holder, get_later rows more row.parent holder at, section)

node_later : (input : List ℕ) (rows more : List FvNode) (row : FvNode) (r : NodeRow) → IsStreamNodeIn input rows row r
    → IsStreamNodeIn input (rows ++ more) row r
node_later input rows more row r h = record {
  is = h.is;
  within = h.within;
  outer = h.outer;
  inner = λ ne. placed_later input rows more row r.node (h.inner ne);
}

-- ---- rows that are added

-- the report of a row has its depth
depth_is : (offset stored : ℕ) (r : NodeRow) (node : NodeMeaning) → (reported_node offset stored r node).depth ≡ r.depth
depth_is offset stored r (VolumeNode m) = refl
depth_is offset stored r (FileNode f) = refl
depth_is offset stored r (SectionNode s) = refl

-- each row adds one depth to the depths of the rows before it
rows_long : (R : FvNode → NodeRow → Type 0) (rows : List FvNode) (walked : List Row) (before : List ℕ)
    → Pairwise R rows (with_parents before walked) → length (depths_after walked before) ≡ length before + length rows
rows_long R [] [] before are = omega arith
rows_long R (x ∷ rows) (r ∷ walked) before are = omega (arith, rows_long R rows walked (r.depth ∷ before) are.1)
rows_long R _ _ before are = absurd are

pairs_join : {A B : Type 0} (R : A → B → Type 0) (xs xs' : List A) (ys ys' : List B) → Pairwise R xs ys → Pairwise R xs' ys'
    → Pairwise R (xs ++ xs') (ys ++ ys')
pairs_join R [] xs' [] ys' p q = q
pairs_join R (x ∷ xs) xs' (y ∷ ys) ys' p q = (p.0, pairs_join R xs xs' ys ys' p.1 q)
pairs_join R _ xs' _ ys' p q = absurd p

all_join : {A : Type 0} (P Q : A → Type 0) → ((x : A) → Q x → P x) → (xs ys : List A) → AllByRecursion Q xs → AllByRecursion P ys
    → AllByRecursion P (xs ++ ys)
all_join P Q weaker [] ys p q = q
all_join P Q weaker (x ∷ xs) ys p q = (weaker x p.0, all_join P Q weaker xs ys p.1 q)

-- if there is no part, no row is added
pub none_added : (input : List ℕ) (parent depth number : ℕ) (rows : List FvNode) → AreAdded input parent depth number [] rows rows
none_added input parent depth number rows =
    record { more = []; joined = sym (append-nil rows); deep = tt; rows = λ nesting before many is. tt }

-- the rows of a part and of the parts after it are added, if the row of the part, the rows inside the part, and the
-- rows of the parts after it are added
part_added : {input : List ℕ} {parent depth number : ℕ} {node : NodeMeaning} {left : List NodeMeaning} {row : FvNode} {rows news new : List FvNode}
    → IsStreamNodeIn input rows row (record { parent = parent; depth = depth; number = number; node = node }) → row.depth ≡ depth
    → AreAdded input (length rows) (depth + 1) 0 (parts_in node) (rows ++ row ∷ []) news
    → AreAdded input parent depth (number + 1) left news new → AreAdded input parent depth number (node ∷ left) rows new
part_added {input} {parent} {depth} {number} {node} {left} {row} {rows} {news} {new} own flat x y = record {
  more = row ∷ (x.more ++ y.more);
  joined = rw (y.joined, x.joined) (simp append_assoc);
  deep = (
    omega (arith, flat),
    all_join (λ (r : FvNode). depth ≤ r.depth) (λ (r : FvNode). depth + 1 ≤ r.depth) (λ r more. omega (arith, more)) x.more y.more x.deep y.deep,
  );
  rows = λ nesting before many is.
      let inside : List Row = rows_of_nodes (depth + 1) (nesting_inside nesting node) 0 (parts_in node) in
      let rest : List Row = rows_of_nodes depth nesting (number + 1) left in
      let after : List ℕ = depths_after inside (depth ∷ before) in
      let long : length (rows ++ row ∷ []) ≡ length rows + 1 = omega (arith, length-append rows (row ∷ [])) in
      let within = x.rows (nesting_inside nesting node) (depth ∷ before) (omega (arith, many, long)) (next_parent depth before ∙ many) in
      let behind = y.rows nesting after (omega (
        arith,
        rows_long (IsStreamNodeIn input news) x.more inside (depth ∷ before) within,
        many,
        ap length x.joined,
        length-append (rows ++ row ∷ []) x.more,
        long,
      )) (later_parts depth (nesting_inside nesting node) before (parts_in node) ∙ is) in
      let is_new : new ≡ rows ++ (row ∷ (x.more ++ y.more)) = rw (y.joined, x.joined) (simp append_assoc) in
      let here : IsStreamNodeIn input new row _ = rw is_new (node_later input rows (row ∷ (x.more ++ y.more)) row _ own) in
      let inner : Pairwise (IsStreamNodeIn input new) x.more (with_parents (depth ∷ before) inside) = rw y.joined
      (pairs_more (IsStreamNodeIn input news) (IsStreamNodeIn input (news ++ y.more)) (node_later input news y.more) x.more _ within) in
      let joined : with_parents (depth ∷ before) (rows_inside (depth + 1) (nesting_inside nesting node) node ++ rest)
      ≡ with_parents (depth ∷ before) inside ++ with_parents after rest =
      ap (λ (l : List Row). with_parents (depth ∷ before) (l ++ rest)) (inside_rows (depth + 1) (nesting_inside nesting node) node)
      ∙ parents_joined (depth ∷ before) inside rest in
      rw is (
        here,
        subst (λ (rs : List NodeRow). Pairwise (IsStreamNodeIn input new) (x.more ++ y.more) rs) (sym joined)
            (pairs_join (IsStreamNodeIn input new) x.more y.more _ _ inner behind),
      );
}

-- ---- the loop

-- the rows of the parts before `left` have been added to the rows `old`, and `rows` are the rows so far: if the rows of
-- `left` are added too, the rows of all parts have been added. The next part has this number. If the next part is a
-- section, `next` is its offset in the bytes of the holder's row
pub record Putting (input : List ℕ) (holder : Holder) (nodes : List NodeMeaning) (old : List FvNode)
    (left : List NodeMeaning) (number next : ℕ) (rows : List FvNode) : Type 0 where
  pub left_is : drop number nodes ≡ left
  pub held : HoldsParts input rows holder nodes
  pub begins : BeginsAt input held.0 number next
  pub nests : AllByRecursion (PartNestsAt holder.depth) left
  pub added : (new : List FvNode) → AreAdded input holder.row holder.depth number left rows new
      → AreAdded input holder.row holder.depth 0 nodes old new

module _ {input : List ℕ} {holder : Holder} {nodes : List NodeMeaning} {old rows : List FvNode} {node : NodeMeaning} {left : List NodeMeaning}
    {number next : ℕ} (p : Putting input holder nodes old (node ∷ left) number next rows) where
  item : (slice_get nodes number ≡ Some node) × (drop (number + 1) nodes ≡ left)
  item = first_item nodes left number node p.left_is

  -- if the part is a file, the holder stores this file. `node_in` returns a row that reports the part
  pub part_lies : HasFileNumber holder number node × IsStreamNodeIn input rows (node_in holder number next node) (row_in holder number node)
  part_lies = lies_in p.held.2 number next p.begins p.held.1 node item.0

  module _ (row : FvNode) (is : row ≡ node_in holder number next node) where
    pub row_found : IsStreamNodeIn input rows row (row_in holder number node)
    row_found = rw is part_lies.1

    -- after the row is added, it holds the parts in its part
    pub part_holds : (files : Vec LocatedFile Global) → RowHasFiles input row files.items → HoldsParts input (rows ++ row ∷ [])
        (record { row = length rows; depth = holder.depth + 1; offset = row.offset; files = files }) (parts_in node)
    part_holds files are = (
      row,
      record {
        outer = λ none. absurd (omega (arith, none));
        inner = λ _. (first_item (rows ++ row ∷ []) [] (length rows) row (drop-append_seam rows (row ∷ []))).0;
      },
      record {
        bytes = p.held.2.bytes;
        within = row_found.within;
        contents = contents row_found;
        offset = refl;
        files = are;
      },
    )

    -- the invariant after the row of the next part, and the rows in this part, are added
    pub put_more : (news : List FvNode) → AreAdded input (length rows) (holder.depth + 1) 0 (parts_in node) (rows ++ row ∷ []) news
        → Putting input holder nodes old left (number + 1) (up_to_4 (row.offset - holder.offset + row.length)) news
    put_more news x =
        let flat : row.depth ≡ holder.depth = ap (λ (r : FvNode). r.depth) row_found.is ∙ depth_is _ _ (row_in holder number node) node in
        rw (x.joined, append_assoc) (record {
          left_is = item.1;
          held = (
            p.held.0,
            record {
              outer = p.held.1.outer;
              inner = λ ne. get_later rows (row ∷ x.more) holder.row p.held.0 (p.held.1.inner ne);
            },
            p.held.2,
          );
          begins = rw is (begins_next p.held.2 number next p.begins node item.0);
          nests = p.nests.1;
          added = λ new y. p.added new (part_added row_found flat x (rw (x.joined, append_assoc) y));
        })

-- ---- the whole volume

-- a row of a tree that is not of depth 0 is a row as in a stream
inner_row : (input : List ℕ) (rows : List FvNode) (row : FvNode) (r : NodeRow) → 1 ≤ row.depth → IsStreamNodeIn input rows row r
    → IsNodeIn input rows row r
inner_row input rows row r deep own = record { is = own.is; within = own.within; placed = own.inner (λ none. omega (arith, deep, none)) }

inner_rows : (input : List ℕ) (rows more : List FvNode) (rs : List NodeRow) → AllByRecursion (λ (row : FvNode). 1 ≤ row.depth) more
    → Pairwise (IsStreamNodeIn input rows) more rs → Pairwise (IsNodeIn input rows) more rs
inner_rows input rows [] [] deep are = tt
inner_rows input rows (row ∷ more) (r ∷ rs) deep are = (inner_row input rows row r deep.0 are.0, inner_rows input rows more rs deep.1 are.1)
inner_rows input rows _ _ deep are = absurd are

module _ (input : List ℕ) (m : Meaning) (accepted : Accepted input m) where
  -- the first row holds the parts of the volume
  pub whole_holds : (files : Vec LocatedFile Global) → BeginWithFiles input (map (file_form input) files.items)
      → HoldsParts input (whole_node m ∷ []) (record { row = 0; depth = 1; offset = 0; files = files }) (parts_in (VolumeNode m))
  whole_holds files begin =
      let own = whole_found input m accepted [] in
      let same = all_bytes input m accepted in (
        whole_node m,
        record { outer = λ none. absurd (omega (arith, none)); inner = λ _. refl },
        record {
          bytes = accepted.0;
          within = own.within;
          contents = tree_contents own;
          offset = refl;
          files = λ _. rw same begin;
        },
      )

  -- if the rows of these parts are added to the first row, the rows are the tree of the volume
  pub tree_put : (rows : List FvNode) → AreAdded input 0 1 0 (parts_in (VolumeNode m)) (whole_node m ∷ []) rows → HasTreeRows input rows
  tree_put rows added =
      let inside = inner_rows input rows added.more _ added.deep (added.rows 0 (0 ∷ []) refl (next_parent 0 [])) in
      record {
        meaning = m;
        volume = accepted;
        nodes = rw (volume_rows 0 0 m, append-nil (rows_inside 1 0 (VolumeNode m)), inside_rows 1 0 (VolumeNode m))
            (rw added.joined (whole_found input m accepted _, rw added.joined at inside));
      }

-- ---- a whole stream

module _ (input : List ℕ) (ss : List SectionMeaning) (tail : ℕ) (accepted : AcceptedStream ss tail input) where
  stream_bytes : bytes_at input (stream_node input) ≡ input
  stream_bytes = take_all (length input) input (omega arith)

  -- the whole input holds the sections of the stream
  pub stream_holds : (files : Vec LocatedFile Global)
      → HoldsParts input [] (record { row = no_parent; depth = 0; offset = 0; files = files }) (map SectionNode ss)
  stream_holds files = (
    stream_node input,
    record { outer = λ _. refl; inner = λ ne. absurd (ne refl) },
    record {
      bytes = accepted.bytes;
      within = omega arith;
      contents = record {
        volume = λ none. absurd (omega (arith, none));
        none = λ one. absurd (omega (arith, one));
        part = λ i node is. let (s, at, same) = get_map SectionNode ss i node is in rw same (refl, ss, tail, rw stream_bytes accepted.stream, at);
      };
      offset = refl;
      files = λ none. absurd (omega (arith, none));
    },
  )

  -- if the rows of these sections are added to no row, these rows are the rows of the stream
  pub stream_put : (rows : List FvNode) → AreAdded input no_parent 0 0 (map SectionNode ss) [] rows → HasSectionRows input rows
  stream_put rows added = record {
    sections = ss;
    tail = tail;
    stream = accepted;
    nodes = rw (stream_rows ss) (rw added.joined (rw added.joined at (added.rows 0 [] refl refl)));
  }
