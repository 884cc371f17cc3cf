use Rattle.fv_survey.proofs.AgreementLaws.{volume_has_meaning, volume_is_clean}
use Rattle.fv_survey.proofs.VolumeAgreementLaws.{agrees}
use Rattle.fv_survey.proofs.further_laws.volumes_agree.Goals as goal

pub returns-clause-clean : goal.returns-clause-clean
returns-clause-clean c n b m means = volume_is_clean n b m means

pub returns-clause-means : goal.returns-clause-means
returns-clause-means c n b small clean = volume_has_meaning n b small clean

pub returns-clause-rows : goal.returns-clause-rows
returns-clause-rows c n p f volume reads = agrees n p f volume reads
