use Rattle.std.proofs.Common.{List, IsTrue, refl, sym, subst, map, inr}
use Rattle.fv_base.proofs.Laws.{err_is}
use Rattle.fv_tree.specs.declared.volume_files.LocatedFile.{LocatedFile}
use Rattle.fv_names.specs.Words.{names_in, Entry, IsIndex, entries_of}
use Rattle.fv_tree.specs.inner.NameForms.{named_file}
use Rattle.fv_tree.proofs.NamedLaws.{all_current, without_twins}
use Rattle.fv_tree.proofs.volume_files.current_files.Goals as goal

pub returns-in_err-check_top-clause-first : goal.returns-in_err-check_top-clause-first
returns-in_err-check_top-clause-first c =
    let files : List LocatedFile = c.args.files.items in
    let es : List Entry = entries_of c.in_ok-index.index in
    let index : IsIndex (names_in (map named_file files)) es = rw c.as_slice.ensures.value at c.in_ok-index.ensures.found in
    let distinct = c.are_distinct.ensures.distinct (subst IsTrue (sym c.if-not-are_distinct.false) refl) in
    rw (err_is c.from_residual-in_err-check_top.ensures.1) (λ ne b.
    let first = rw (c.as_slice-2.ensures.value, ← all_current b files es index distinct) at (c.in_err-check_top.ensures.first b) in
    inr (without_twins b files es index distinct, first.0, first.1, first.2))

pub returns-clause-found : goal.returns-clause-found
returns-clause-found c = λ b.
    let files : List LocatedFile = c.args.files.items in
    let es : List Entry = entries_of c.in_ok-index.index in
    let index : IsIndex (names_in (map named_file files)) es = rw c.as_slice.ensures.value at c.in_ok-index.ensures.found in
    let distinct = c.are_distinct.ensures.distinct (subst IsTrue (sym c.if-not-are_distinct.false) refl) in
    record {
      no_twins = without_twins b files es index distinct;
      files_are = sym (all_current b files es index distinct);
      top = rw c.as_slice-2.ensures.value at (c.in_ok-check_top.ensures.found b);
    }
