use Rattle.std.proofs.lemmas.Grind.{common_steps}
use Rattle.std.proofs.Common.{◌≡◌, ◌∙◌, sym, ap, [], ◌∷◌, ◌++◌, append-nil, arith, length-drop, map, refl, rules}
use Rattle.std.proofs.lemmas.List.{map_push}
use Rattle.fv_base.specs.Words.{IsBytes}
use Rattle.fv_base.proofs.Laws.{bytes_drop, drop, err_is, length, map-append, map-map}
use Rattle.fv_file.specs.Words.{Walked, cell_form}
use Rattle.fv_file.proofs.Laws.{body_payloads, walk_begins, walk_ends, walk_fails, walked_on}
use Rattle.fv_tree.specs.Words.{bare_form, filled, files_in}
use Rattle.fv_tree.specs.inner.ReadingParts.{bare}
use Rattle.fv_tree.proofs.BodyLaws.{cells_inside, stored_in}
use Rattle.fv_tree.proofs.FilledLaws.{all_back}
use Rattle.fv_tree.proofs.NameLaws.{files_in_more}
use Rattle.fv_tree.proofs.SmallCellLaws.{small_cell}
use Rattle.fv_tree.proofs.volume_files.files_in.Goals as goal

pub loop-files-init : goal.loop-files-init
loop-files-init c = ([], rw c.of-walk.ensures (walk_begins _), rw c.in_ok-files.ensures.items refl)

pub file_of-requires : goal.file_of-requires
file_of-requires c =
    let (cs, walked, are) = c.loop-files.invariant in
    let bytes : IsBytes c.args.volume.now = search rules in
    let step : Walked c.loop-files.walk (cell_form c.in-Some.cell ∷ []) c.next_cell.new.self = search rules in
    small_cell _ _ _ _ _ (bytes_drop c.args.extent.now.first c.args.volume.now bytes)
    (omega (arith, length-drop c.args.extent.now.first c.args.volume.now, c.requires.small, c.requires.within)) walked step

pub loop-files-preserved-in_default-file_of : goal.loop-files-preserved-in_default-file_of
loop-files-preserved-in_default-file_of c =
    let (cs, walked, are) = c.loop-files.invariant in
    let cell = cell_form c.in-Some.cell in
    let step : Walked c.loop-files.walk (cell ∷ []) c.next_cell.new.self = search rules in
    let same = files_in_more cs cell ∙ ap (λ l. files_in cs ++ l) c.in_default-file_of.ensures.none ∙ append-nil (files_in cs) in
    (_, walked_on _ _ _ _ _ walked step, are ∙ ap (map bare) (sym same))

pub loop-files-preserved : goal.loop-files-preserved
loop-files-preserved c =
    let (cs, walked, are) = c.loop-files.invariant in
    let step : Walked c.loop-files.walk (cell_form c.in-Some.cell ∷ []) c.next_cell.new.self = search rules in
    let items : c.push.new.self.items ≡ c.loop-files.files.items ++ c.in-Some-file_of.file ∷ [] = search rules in
    let some = c.in-Some-file_of.ensures.some in
    (_, walked_on _ _ _ _ _ walked step, rw (items, map_push, files_in_more, map-append) (cc (are, some)))

pub returns-in_err-cell-clause-first : goal.returns-in_err-cell-clause-first
returns-in_err-cell-clause-first c =
    let (cs, walked, are) = c.loop-files.invariant in
    rw (err_is c.from_residual-in_err-cell.ensures.1) (λ memory. walk_fails _ _ _ _ walked c.in_err-cell.ensures.first.0)

-- the files of the cells have their data in the volume
pub returns-clause-found : goal.returns-clause-found
returns-clause-found c =
    let e = c.args.extent.now in
    let volume = c.args.volume.now in
    let (cs, walked, are) = c.loop-files.invariant in
    let bytes : IsBytes volume = search rules in
    let none : c.loop-files.walk.rest ≡ [] = search rules in
    let tiles = walk_ends _ _ _ walked none in
    let rest : IsBytes (drop e.first volume) = bytes_drop e.first volume bytes in
    let stored = stored_in e.file_system e.polarity e.first 0 (length volume) cs _ rest (omega (arith, length-drop e.first volume, c.requires.small))
    (omega (arith, c.requires.small)) tiles (cells_inside e volume cs c.requires.within tiles) in
    let back = all_back volume 0 cs (body_payloads _ _ _ cs _ tiles) stored in
    (cs, tiles, sym (map-map (filled volume) bare_form c.loop-files.files.items) ∙ ap (map (filled volume)) are ∙ back)

pub loop-files-smaller : goal.loop-files-smaller
loop-files-smaller c = grind (arith, common_steps)

pub loop-files-smaller-in_default-file_of : goal.loop-files-smaller-in_default-file_of
loop-files-smaller-in_default-file_of c = grind (arith, common_steps)
