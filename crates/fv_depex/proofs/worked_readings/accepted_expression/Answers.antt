use Rattle.std.proofs.Common.{[], inl, refl}
use Rattle.fv_depex.specs.Words.{installed, negated}
use Rattle.fv_depex.specs.Words.{guid}
use Rattle.fv_depex.proofs.worked_readings.accepted_expression.Goals as goal

pub returns-clause-spells : goal.returns-clause-spells
returns-clause-spells c = record {
  joined = refl;
  is_expression = inl (negated (installed (guid 0x0a)), record { sor = []; joined = refl; sor_is = inl refl });
  sized = (refl, (refl, (refl, tt)));
}

pub returns-clause-tree : goal.returns-clause-tree
returns-clause-tree c = record { sor = []; joined = refl; sor_is = inl refl }
