use Rattle.std.proofs.Common.{ℕ, List, [], option_map, ap, ap₂, sym, ◌∙◌}
use Rattle.fv_levels.specs.Words.{source_form}
use Rattle.fv_same.specs.Words.{ReaderForm, count_before}
use Rattle.fv_same.specs.Words.{NameKey}
use Rattle.fv_same.specs.declared.meant.Around.{Around}
use Rattle.fv_same.proofs.WalkLemmas.{no_source, walk_begins}
use Rattle.fv_same.proofs.walk.walk_of.Goals as goal

pub returns-in_default-clause-items : goal.returns-in_default-clause-items
returns-in_default-clause-items c =
    no_source c.args.room c.args.levels.now.sources c.args.number
    (sym c.source.ensures.source ∙ ap (option_map source_form) c.in_default.is)

pub returns-clause-items : goal.returns-clause-items
returns-clause-items c =
    let made : ℕ → List Around → List NameKey → ReaderForm =
    λ next around updates. record {
      number = c.args.number;
      level = c.in-Some.source.depth;
      bytes = c.in-Some.source.bytes.now;
      next = next;
      around = around;
      updates = updates;
    } in
    walk_begins c.args.levels.now.sources c.args.number c.args.room (made c.count_before.result c.new.result.items c.in_ok-updates.updates.keys) c.in_ok-rows.rows
    (source_form c.in-Some.source) (sym c.in-Some.ensures.source) (ap₂ (λ next around. made next around c.in_ok-updates.updates.keys) c.count_before.ensures c.new.ensures.items
    ∙ ap (made (count_before c.args.number c.args.levels.now.sources) []) c.in_ok-updates.ensures.updates) c.in_ok-rows.ensures.rows
