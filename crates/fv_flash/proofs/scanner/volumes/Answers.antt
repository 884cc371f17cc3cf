use Rattle.std.proofs.lemmas.Grind.{common_steps}
use Rattle.std.proofs.Common.{◌++◌, ◌∷◌, [], ℕ, List, sym, ap, ◌∙◌, subst, arith, append_assoc, append-nil}
use Rattle.fv_base.proofs.Laws.{err_is}
use Rattle.fv_flash.specs.inner.FoundWalks.{VolumesFrom}
use Rattle.fv_flash.proofs.ScanLaws.{at_multiple, at_within, walk_found, one_are}
use Rattle.fv_flash.proofs.scanner.volumes.Goals as goal

pub loop-volume-preserved : goal.loop-volume-preserved
loop-volume-preserved c =
    let b : List ℕ = c.args.bytes.now in
    let v = c.in-Some.volume in
    let s = c.in-Some.ensures.some in
    record {
      multiple = omega (arith, s.1, at_multiple b v.offset v.length s.3);
      within = at_within b v.offset v.length s.3;
      found = λ vs f. subst (VolumesFrom 0 b)
          (sym (ap (λ l. l ++ vs) c.in_ok-push.ensures.items ∙ append_assoc c.loop-volume.list.items (v ∷ []) vs))
          (c.loop-volume.invariant.found (v ∷ vs) ((v.length, s, f.0), (s.3, f.1)));
    }

pub returns-in_err-push-clause-memory : goal.returns-in_err-push-clause-memory
returns-in_err-push-clause-memory c =
    let v = c.in-Some.volume in
    let s = c.in-Some.ensures.some in
    rw (err_is c.from_residual.ensures.1) (v.offset, (s.1, (v.length, s.3)))

pub returns-clause-found : goal.returns-clause-found
returns-clause-found c =
    let all = subst (VolumesFrom 0 c.args.bytes.now) (append-nil c.loop-volume.list.items)
    (c.loop-volume.invariant.found [] (c.in_default.ensures.none, tt)) in
    (walk_found c.args.bytes.now _ all.0, all.1)

pub returns-clause-only : goal.returns-clause-only
returns-clause-only c = λ other f. one_are c.args.bytes.now other c.loop-volume.list.items f (returns-clause-found c)

pub overflow_add-from : goal.overflow_add-from
overflow_add-from c = grind (arith, common_steps)
