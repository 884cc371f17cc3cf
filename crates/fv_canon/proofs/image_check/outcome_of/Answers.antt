use Rattle.std.proofs.Common.{arith, inl, rules, sym}
use denote.Enum.Bare.{same_false, same_true}
use Rattle.fv_base.specs.contracts.fault.FaultKind.{the_type}
use Rattle.fv_canon.proofs.RejectedInputLaws.{refused_within}
use Rattle.fv_canon.proofs.ImageCheckLaws.{is_not_read, is_rejected, ran_out_only}
use Rattle.fv_canon.proofs.image_check.outcome_of.Goals as goal

pub returns-then-eq-clause-err : goal.returns-then-eq-clause-err
returns-then-eq-clause-err c =
    ran_out_only c.args.volume.now c.in-Err.fault c.in-Err.ensures.err (same_true the_type (search rules) _ _ (sym c.if-eq.ensures))

pub fault_within-requires : goal.fault_within-requires
fault_within-requires c =
    let bad = is_not_read c.args.volume.now c.in-Err.fault c.in-Err.ensures.err (same_false the_type _ _ (sym c.if-eq.ensures)) in
    omega (arith, c.requires, refused_within c.args.volume.now c.in-Err.fault (inl bad))

pub returns-else-eq-clause-ok : goal.returns-else-eq-clause-ok
returns-else-eq-clause-ok c =
    is_rejected c.args.start c.args.volume.now c.in-Err.fault c.fault_within.result c.in-Err.ensures.err
    (same_false the_type _ _ (sym c.if-eq.ensures)) c.fault_within.ensures.moved c.fault_within.ensures.kind
