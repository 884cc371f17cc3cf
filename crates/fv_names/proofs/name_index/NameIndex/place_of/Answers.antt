use Rattle.std.proofs.Common.{◌≡◌, rules, Bool, true, false, sym, subst}
use Rattle.fv_base.proofs.Laws.{is_lt}
use Rattle.std.specs.List.Sorted.{IsPartitionedBy, IsPartitionPoint}
use Rattle.std.proofs.lemmas.List.Sorted.{IsPartitionPoint-from_clause}
use Rattle.fv_names.specs.Words.{Entry, entries_of, halves_cmp}
use Rattle.fv_names.proofs.IndexLaws.{parted}
use Rattle.fv_names.proofs.name_index.NameIndex.place_of.Goals as goal

pub returns-clause-parted : goal.returns-clause-parted
returns-clause-parted c = λ sorted.
    let before : Entry → Bool = λ e. is_lt (halves_cmp e.0 c.args.key) in
    let items = c.as_slice.ensures.value in
    let rising = subst (IsPartitionedBy before) (sym items) (parted (entries_of c.args.self.now) c.args.key sorted) in
    subst (λ es. IsPartitionPoint (λ e. before e ≡ true) (λ e. before e ≡ false) es c.partition_point.result) items
    (IsPartitionPoint-from_clause before _ _ c.partition_point.ensures.partitioned rising (λ a r q k. search rules))
