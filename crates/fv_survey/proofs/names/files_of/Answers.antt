use Rattle.std.proofs.Common.{arith, length, rules}
use Rattle.std.proofs.lemmas.Grind.{common_steps}
use Rattle.fv_survey.specs.Words.{body_files, layout_of}
use Rattle.fv_survey.specs.inner.Pieces.{IsPiece}
use Rattle.fv_survey.proofs.NameLaws.{first_lies, walk_begins, walk_on}
use Rattle.fv_survey.proofs.names.files_of.Goals as goal

pub loop-rest-init : goal.loop-rest-init
loop-rest-init c =
    walk_begins c.args.parts c.args.bytes.now c.cells_of-rest.result.now c.new-files.result.items c.requires.within c.cells_of-rest.ensures.cells
    c.new-files.ensures.items

pub push_file-requires : goal.push_file-requires
push_file-requires c =
    let lies : IsPiece (length c.loop-rest.rest.now) c.piece_at-piece.result = first_lies (layout_of c.args.parts) (length c.args.bytes.now)
    c.loop-rest.rest.now c.piece_at-piece.result (search rules) c.loop-rest.invariant.multiple (search rules) in
    omega (arith, lies.size, lies.within, c.loop-rest.invariant.within)

pub overflow_add-at : goal.overflow_add-at
overflow_add-at c =
    let lies : IsPiece (length c.loop-rest.rest.now) c.piece_at-piece.result = first_lies (layout_of c.args.parts) (length c.args.bytes.now)
    c.loop-rest.rest.now c.piece_at-piece.result (search rules) c.loop-rest.invariant.multiple (search rules) in
    search (rules, lies.within, c.loop-rest.invariant.within)

pub slice_bounds-rest-count : goal.slice_bounds-rest-count
slice_bounds-rest-count c =
    let lies : IsPiece (length c.loop-rest.rest.now) c.piece_at-piece.result = first_lies (layout_of c.args.parts) (length c.args.bytes.now)
    c.loop-rest.rest.now c.piece_at-piece.result (search rules) c.loop-rest.invariant.multiple (search rules) in
    lies.within

pub slice_bounds-rest-start : goal.slice_bounds-rest-start
slice_bounds-rest-start c =
    let lies : IsPiece (length c.loop-rest.rest.now) c.piece_at-piece.result = first_lies (layout_of c.args.parts) (length c.args.bytes.now)
    c.loop-rest.rest.now c.piece_at-piece.result (search rules) c.loop-rest.invariant.multiple (search rules) in
    search (rules, lies.within)

pub loop-rest-smaller : goal.loop-rest-smaller
loop-rest-smaller c =
    let lies : IsPiece (length c.loop-rest.rest.now) c.piece_at-piece.result = first_lies (layout_of c.args.parts) (length c.args.bytes.now)
    c.loop-rest.rest.now c.piece_at-piece.result (search rules) c.loop-rest.invariant.multiple (search rules) in
    grind (arith, common_steps, lies.some, lies.within)

pub loop-rest-preserved : goal.loop-rest-preserved
loop-rest-preserved c =
    walk_on (layout_of c.args.parts) (length c.args.bytes.now) c.loop-rest.at c.loop-rest.rest.now c.loop-rest.files.items
    (body_files c.args.parts c.args.bytes.now) c.piece_at-piece.result c.push_file.new.files.items (search rules) c.loop-rest.invariant
    (search rules) c.in_ok-push_file.ensures.pushed
