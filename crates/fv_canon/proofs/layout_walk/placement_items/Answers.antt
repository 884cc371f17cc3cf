use Rattle.std.proofs.Common.{◌≡◌, ◌<◌, ◌+◌, ℕ, [], ◌∷◌, ◌++◌, List, length, take, get_or, map, sym, ap, ◌∙◌, arith, take_all}
use Rattle.fv_base.proofs.Laws.{common_steps, map-append, take_more, err_is}
use Rattle.fv_canon.specs.Words.{placement_item}
use Rattle.fv_placement.specs.declared.first_placement.PlacementItem.{PlacementItem}
use Rattle.fv_tree.proofs.Laws.{files_list_back}
use Rattle.fv_tree.specs.Words.{FileMeaning, files_of}
use Rattle.fv_canon.proofs.FileItemLaws.{parts_fit}
use Rattle.fv_canon.proofs.LayoutWalkLaws.{some_items}
use Rattle.fv_canon.proofs.layout_walk.placement_items.Goals as goal

pub returns-clause-ok : goal.returns-clause-ok
returns-clause-ok c =
    let fs : List FileMeaning = c.files-files.result.now in
    let are : fs ≡ files_of c.args.view.now = sym (ap files_of c.files-files.ensures ∙ files_list_back fs) in
    let is = c.loop-file.invariant ∙ ap (map placement_item) (take_all c.loop-file.file-index fs c.loop-file-test.false ∙ are) in
    (is, rw is (parts_fit c.args.view.now c.known.ensures))

-- the items of the first files and of one more file are the items of the first files, and the item of this file
item_more : (fs : List FileMeaning) (i : ℕ) (m : FileMeaning) (items more : List PlacementItem) (item : PlacementItem) → i < length fs
    → m ≡ get_or fs i m → items ≡ map placement_item (take i fs) → item ≡ placement_item m → more ≡ items ++ item ∷ []
    → more ≡ map placement_item (take (i + 1) fs)
item_more fs i m items more item less at before is pushed = grind (arith, common_steps, map-append, take_more) steps 400000

pub loop-file-preserved : goal.loop-file-preserved
loop-file-preserved c = grind (arith, common_steps, item_more) steps 400000

pub returns-in_err-items-clause-some : goal.returns-in_err-items-clause-some
returns-in_err-items-clause-some c =
    rw (err_is c.from_residual.ensures.1, c.files-files.ensures, files_list_back) (some_items c.files-files.result.now c.in_err-items.ensures.succeeds)

pub returns-in_err-push-clause-some : goal.returns-in_err-push-clause-some
returns-in_err-push-clause-some c =
    rw (err_is c.from_residual-in_err-push.ensures.1, c.files-files.ensures, files_list_back) (omega arith)
