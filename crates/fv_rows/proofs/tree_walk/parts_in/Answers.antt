use Rattle.fv_tree.proofs.Laws.{files_list_back}
use Rattle.fv_rows.proofs.RowWalkLaws.{sections_list_back}
use Rattle.fv_rows.proofs.tree_walk.parts_in.Goals as goal

pub returns-in-Volume-clause-nodes : goal.returns-in-Volume-clause-nodes
returns-in-Volume-clause-nodes c = rw (c.in-Volume.is, c.files-files.ensures, files_list_back)

pub returns-in-Plain-clause-nodes : goal.returns-in-Plain-clause-nodes
returns-in-Plain-clause-nodes c = rw (c.in-File.is, ← c.content.ensures, c.in-Plain.is)

pub returns-in-Stream-clause-nodes : goal.returns-in-Stream-clause-nodes
returns-in-Stream-clause-nodes c = rw (c.in-File.is, ← c.content.ensures, c.in-Stream.is, sections_list_back)

pub returns-in-Group-clause-nodes : goal.returns-in-Group-clause-nodes
returns-in-Group-clause-nodes c = rw (c.in-Section.is, ← c.body.ensures, c.in-Group.is, sections_list_back)
