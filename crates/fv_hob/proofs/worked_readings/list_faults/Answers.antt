use Rattle.std.proofs.Common.{[], ◌∷◌, refl, take}
use Rattle.fv_base.proofs.Laws.{arith}
use Rattle.fv_hob.specs.Words.{end_bytes, header_of_12, long_table, table, table_bytes}
use Rattle.fv_hob.proofs.BlockReadings.{fault_after, table_is}
use Rattle.fv_hob.proofs.worked_readings.list_faults.Goals as goal

pub returns-clause-no_end : goal.returns-clause-no_end
returns-clause-no_end c = fault_after [] [] [] _ refl tt tt refl

pub returns-clause-end_lost : goal.returns-clause-end_lost
returns-clause-end_lost c = fault_after (table ∷ []) table_bytes [] _ (table_bytes, [], refl, table_is, refl) refl (λ ends. omega (arith, ends), tt) refl

pub returns-clause-short : goal.returns-clause-short
returns-clause-short c = fault_after [] [] (take 7 table_bytes) _ refl tt tt refl

pub returns-clause-length : goal.returns-clause-length
returns-clause-length c =
    fault_after (table ∷ []) table_bytes header_of_12 _ (table_bytes, [], refl, table_is, refl) refl (λ ends. omega (arith, ends), tt) refl

pub returns-clause-first : goal.returns-clause-first
returns-clause-first c = fault_after [] [] end_bytes _ refl tt tt refl

pub returns-clause-shape : goal.returns-clause-shape
returns-clause-shape c = fault_after [] [] long_table _ refl tt tt refl
