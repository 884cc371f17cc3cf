use Rattle.std.proofs.Common.{refl}
use Rattle.fv_canon.proofs.ReadingSteps.{header_rejects}
use Rattle.fv_canon.proofs.worked_readings.header_faults.Goals as goal

pub returns-clause-truncated : goal.returns-clause-truncated
returns-clause-truncated c = header_rejects _ _ _ refl

pub returns-clause-short : goal.returns-clause-short
returns-clause-short c = header_rejects _ _ _ refl

pub returns-clause-signature : goal.returns-clause-signature
returns-clause-signature c = header_rejects _ _ _ refl

pub returns-clause-file_system : goal.returns-clause-file_system
returns-clause-file_system c = header_rejects _ _ _ refl

pub returns-clause-revision : goal.returns-clause-revision
returns-clause-revision c = header_rejects _ _ _ refl

pub returns-clause-header_length : goal.returns-clause-header_length
returns-clause-header_length c = header_rejects _ _ _ refl

pub returns-clause-header_sum : goal.returns-clause-header_sum
returns-clause-header_sum c = header_rejects _ _ _ refl

pub returns-clause-block_map : goal.returns-clause-block_map
returns-clause-block_map c = header_rejects _ _ _ refl

pub returns-clause-length : goal.returns-clause-length
returns-clause-length c = header_rejects _ _ _ refl

pub returns-clause-ext_header : goal.returns-clause-ext_header
returns-clause-ext_header c = header_rejects _ _ _ refl
