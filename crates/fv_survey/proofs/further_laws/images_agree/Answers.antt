use Rattle.fv_survey.proofs.VolumeAgreementLaws.{accepted_image, clean_image}
use Rattle.fv_survey.proofs.further_laws.images_agree.Goals as goal

pub returns-clause-clean : goal.returns-clause-clean
returns-clause-clean c b m f accepted reads = accepted_image b m f accepted reads

pub returns-clause-accepted : goal.returns-clause-accepted
returns-clause-accepted c b f small filed reads clean = clean_image b f small filed reads clean
