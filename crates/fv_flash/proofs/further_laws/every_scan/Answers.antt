use Rattle.fv_flash.proofs.DecidedScanLaws.{found_exists}
use Rattle.fv_flash.proofs.ScanLaws.{one_found}
use Rattle.fv_flash.proofs.further_laws.every_scan.Goals as goal

pub returns-clause-some : goal.returns-clause-some
returns-clause-some c = found_exists

pub returns-clause-one : goal.returns-clause-one
returns-clause-one c = one_found
