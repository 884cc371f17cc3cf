use Rattle.std.proofs.Common.{◌≡◌, ◌∙◌, ℕ, List, length, sym, subst, true, false, refl}
use Rattle.fv_survey.specs.declared.pieces.Layout.{Layout}
use Rattle.fv_survey.specs.inner.Pieces.{IsPiece}
use Rattle.fv_survey.specs.Words.{headed_piece, may_be_header, piece_by, space_piece, strict_kind}
use Rattle.fv_survey.proofs.PieceBoundLaws.{piece_lies}
use Rattle.fv_survey.proofs.pieces.piece_at.Goals as goal

piece_headed : (layout : Layout) (r : List ℕ) → may_be_header layout.polarity r ≡ true
    → piece_by layout r ≡ headed_piece (strict_kind layout r) layout r
unfolding piece_by
piece_headed layout r e = rw e refl

piece_bare : (layout : Layout) (r : List ℕ) → may_be_header layout.polarity r ≡ false → piece_by layout r ≡ space_piece layout r
unfolding piece_by
piece_bare layout r e = rw e refl

pub returns-then-may_be_header-clause-lies : goal.returns-then-may_be_header-clause-lies
returns-then-may_be_header-clause-lies c =
    subst (IsPiece (length c.args.rest.now))
    (piece_headed c.args.layout c.args.rest.now (sym c.may_be_header.ensures.may ∙ c.if-may_be_header.true) ∙ sym c.headed_piece.ensures)
    (piece_lies c.args.layout c.args.rest.now c.requires.some c.requires.multiple)

pub returns-else-may_be_header-clause-lies : goal.returns-else-may_be_header-clause-lies
returns-else-may_be_header-clause-lies c =
    subst (IsPiece (length c.args.rest.now))
    (piece_bare c.args.layout c.args.rest.now (sym c.may_be_header.ensures.may ∙ c.if-may_be_header.false) ∙ sym c.space_piece.ensures)
    (piece_lies c.args.layout c.args.rest.now c.requires.some c.requires.multiple)
