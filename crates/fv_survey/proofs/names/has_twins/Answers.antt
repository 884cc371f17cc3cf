use Rattle.std.proofs.Common.{map, sym, arith}
use Rattle.fv_base.proofs.Laws.{length-map}
use Rattle.fv_survey.specs.Words.{named_file}
use Rattle.fv_survey.proofs.NameLaws.{few_twins, twins_decided}
use Rattle.fv_survey.proofs.names.has_twins.Goals as goal

pub returns-then-files-lt2-clause-twins : goal.returns-then-files-lt2-clause-twins
returns-then-files-lt2-clause-twins c =
    sym (few_twins (map named_file c.args.files.now) (omega (arith, length-map c.args.files.now named_file, c.if-files-lt2.true)))

pub returns-clause-twins : goal.returns-clause-twins
returns-clause-twins c =
    twins_decided (map named_file c.args.files.now) _ _ (sym (length-map c.args.files.now named_file)) c.first_twin.ensures.most
    c.first_twin.ensures.none c.first_twin.ensures.first
