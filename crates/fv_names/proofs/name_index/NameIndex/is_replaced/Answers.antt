use Rattle.std.proofs.Common.{List, sym, ◌∙◌, subst}
use Rattle.std.proofs.lemmas.Bool.Decides.{same_from_decides}
use Rattle.fv_base.specs.declared.guid.Guid.{Guid}
use Rattle.fv_names.specs.Words.{Entry, entries_of, halves_of}
use Rattle.fv_names.specs.inner.NameOrders.{IsShared}
use Rattle.fv_names.proofs.IndexLaws.{no_entry, no_named}
use Rattle.fv_names.proofs.NeighbourLaws.{unmarked_kept, update_shares}
use Rattle.fv_names.proofs.name_index.NameIndex.is_replaced.Goals as goal

pub returns-then-is_marked : goal.returns-then-is_marked
returns-then-is_marked g c = λ fs index none has.
    let es : List Entry = entries_of c.args.self.now in
    let marked = sym c.is_marked.ensures ∙ c.if-is_marked.true in
    same_from_decides c.is_shared.result _ (
      λ on. subst (λ (n : Guid). IsShared es no_entry (halves_of n)) c.name.ensures (c.is_shared.ensures.yes index.ordered on no_entry),
      λ shared. c.is_shared.ensures.all index.ordered no_entry (subst (λ (n : Guid). IsShared es no_entry (halves_of n)) (sym c.name.ensures) shared),
    ) (update_shares fs es index no_named no_entry none _ has marked)

pub returns-else-is_marked : goal.returns-else-is_marked
returns-else-is_marked g c = λ fs index none has. c.if-is_marked.false ∙ sym (unmarked_kept _ fs (sym c.is_marked.ensures ∙ c.if-is_marked.false))
