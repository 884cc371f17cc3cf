use Rattle.std.proofs.lemmas.Grind.{common_steps}
use Rattle.std.proofs.Common.{◌≡◌, ◌∷◌, List, [], arith, length, map, rules}
use Rattle.fv_tree.specs.Words.{FileMeaning, files_of}
use Rattle.fv_rows.proofs.Laws.{inside_nests}
use Rattle.fv_rows.specs.Words.{FileNode, VolumeNode}
use Rattle.fv_c.specs.inner.Trees.{whole_node}
use Rattle.fv_c.proofs.TreeLoop.{none_added, tree_put, whole_holds}
use Rattle.fv_c.proofs.tree.rows_of.Goals as goal

-- if there are no files, there are no parts
no_nodes : (fs : List FileMeaning) → length fs ≡ 0 → map FileNode fs ≡ []
no_nodes fs none = grind (arith, common_steps)

pub returns-then-file_count-eq0-clause-ok : goal.returns-then-file_count-eq0-clause-ok
returns-then-file_count-eq0-clause-ok c =
    let own : c.push.new.self.items ≡ whole_node c.args.volume.now ∷ [] = search rules in
    rw own (tree_put c.args.input.now c.args.volume.now c.requires.read _
    (rw (no_nodes (files_of c.args.volume.now) (omega (arith, c.if-file_count-eq0.true, c.file_count.ensures))) (none_added _ 0 1 0 _)))

pub put_parts-requires-clause-nest : goal.put_parts-requires-clause-nest
put_parts-requires-clause-nest c = rw c.parts_in.ensures.nodes (inside_nests 0 (VolumeNode c.args.volume.now) c.known.ensures)

pub put_parts-requires-clause-held : goal.put_parts-requires-clause-held
put_parts-requires-clause-held c =
    let own : c.push.new.self.items ≡ whole_node c.args.volume.now ∷ [] = search rules in
    rw (c.parts_in.ensures.nodes, own) (whole_holds c.args.input.now c.args.volume.now c.requires.read c.args.stored c.requires.files)

pub returns-clause-ok : goal.returns-clause-ok
returns-clause-ok c =
    let own : c.push.new.self.items ≡ whole_node c.args.volume.now ∷ [] = search rules in
    tree_put c.args.input.now c.args.volume.now c.requires.read c.put_parts.new.rows.items
    (rw (c.parts_in.ensures.nodes, own) at c.in_ok-put_parts.ensures.ok)
