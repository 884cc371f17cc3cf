use Rattle.std.proofs.Common.{refl}
use Rattle.fv_survey.proofs.CellAgreementLaws.{tiled_read}
use Rattle.fv_survey.proofs.HeaderAgreementLaws.{same_extent}
use Rattle.fv_survey.proofs.SectionAgreementLaws.{split_read}
use Rattle.fv_survey.proofs.further_laws.parts_agree.Goals as goal

pub returns-clause-header : goal.returns-clause-header
returns-clause-header c b h e begins = same_extent b h e begins

pub returns-clause-cells : goal.returns-clause-cells
returns-clause-cells c layout at cells r in_eights tiles = tiled_read layout at cells r in_eights tiles

pub returns-clause-sections : goal.returns-clause-sections
returns-clause-sections c frames tail b splits = split_read 0 frames tail b refl splits
