-- The door of this crate: other crates import the definitions of its `specs/` from this file. Only definitions of
-- `specs/inner/` are imported directly.
pub use Rattle.fv_rows.specs.TreeRows.{NodeMeaning, VolumeNode, FileNode, SectionNode, TreeRow, rows_of_volume}
pub use Rattle.fv_rows.specs.TreeRows.{rows_of_files, rows_of_file, rows_in_content, rows_of_sections, rows_of_section}
pub use Rattle.fv_rows.specs.TreeRows.{rows_in_body, tree_rows, parts_in, parts_in_body}
pub use Rattle.fv_rows.specs.RowWalks.{part_node, row_of, nodes_of, nesting_inside, rows_inside, rows_of_nodes, rows_left_in}
pub use Rattle.fv_rows.specs.RowWalks.{PartNestsAt, FitsAt, AreRowLevels}
