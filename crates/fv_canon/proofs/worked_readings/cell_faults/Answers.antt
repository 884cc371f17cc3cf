use Rattle.std.proofs.Common.{refl}
use Rattle.fv_base.specs.Words.{all_are}
use Rattle.fv_file.specs.Words.{state_of}
use Rattle.fv_canon.proofs.ReadingSteps.{cell_rejects, extent}
use Rattle.fv_canon.proofs.worked_readings.cell_faults.Goals as goal

pub returns-clause-state : goal.returns-clause-state
unfolding all_are state_of
returns-clause-state c = cell_rejects (extent 128) _ _ _ (record { bytes = refl; checks = refl; file_system = refl; extent_is = refl }) refl refl refl

pub returns-clause-header_sum : goal.returns-clause-header_sum
unfolding all_are state_of
returns-clause-header_sum c = cell_rejects (extent 128) _ _ _ (record { bytes = refl; checks = refl; file_system = refl; extent_is = refl }) refl refl refl

pub returns-clause-size : goal.returns-clause-size
unfolding all_are state_of
returns-clause-size c = cell_rejects (extent 128) _ _ _ (record { bytes = refl; checks = refl; file_system = refl; extent_is = refl }) refl refl refl

pub returns-clause-large : goal.returns-clause-large
unfolding all_are state_of
returns-clause-large c = cell_rejects (extent 128) _ _ _ (record { bytes = refl; checks = refl; file_system = refl; extent_is = refl }) refl refl refl

pub returns-clause-file_sum : goal.returns-clause-file_sum
unfolding all_are state_of
returns-clause-file_sum c = cell_rejects (extent 128) _ _ _ (record { bytes = refl; checks = refl; file_system = refl; extent_is = refl }) refl refl refl

pub returns-clause-fixed : goal.returns-clause-fixed
unfolding all_are state_of
returns-clause-fixed c = cell_rejects (extent 128) _ _ _ (record { bytes = refl; checks = refl; file_system = refl; extent_is = refl }) refl refl refl

pub returns-clause-free_space : goal.returns-clause-free_space
unfolding all_are state_of
returns-clause-free_space c = cell_rejects (extent 128) _ _ _ (record { bytes = refl; checks = refl; file_system = refl; extent_is = refl }) refl refl refl
