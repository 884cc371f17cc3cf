use Rattle.std.proofs.Common.{arith}
use Rattle.std.proofs.lemmas.Grind.{common_steps}
use Rattle.std.proofs.lemmas.Result.{MatchResult-weaker}
use Rattle.fv_base.specs.Words.{First, depth_limit}
use Rattle.fv_tree.specs.Words.{outermost}
use Rattle.fv_tree.proofs.FaultLaws.{fault_stands}
use Rattle.fv_tree.proofs.FaultPlaceLaws.{refused_within}
use Rattle.fv_tree.proofs.FirstLaws.{only_answer, one_answer, sound_answer}
use Rattle.fv_tree.proofs.RefusalLaws.{fault_refuses}
use Rattle.fv_tree.proofs.read.read_volume.Goals as goal

pub returns-clause-only : goal.returns-clause-only
returns-clause-only c = only_answer c.args.bytes.now c.read_at.result c.read_at.ensures.read c.read_at.ensures.length

pub returns-clause-none : goal.returns-clause-none
returns-clause-none c =
    MatchResult-weaker c.read_at.result c.read_at.ensures.read (λ _ _. tt)
    (λ e first ne n m within d. fault_refuses First depth_limit n e c.args.bytes.now outermost m within (first ne) d)

pub returns-clause-one : goal.returns-clause-one
returns-clause-one c = one_answer c.args.bytes.now c.read_at.result c.read_at.ensures.read c.read_at.ensures.length

pub returns-clause-holds : goal.returns-clause-holds
returns-clause-holds c = MatchResult-weaker c.read_at.result c.read_at.ensures.read (λ _ _. tt) (λ e first ne. fault_stands _ e (first ne))

pub returns-clause-bound : goal.returns-clause-bound
returns-clause-bound c =
    MatchResult-weaker c.read_at.result c.read_at.ensures.read (λ _ _. tt) (λ e first. refused_within c.args.bytes.now e first)

pub returns-clause-sound : goal.returns-clause-sound
returns-clause-sound c = sound_answer c.args.bytes.now c.read_at.result c.read_at.ensures.read c.read_at.ensures.length

pub returns-clause-found : goal.returns-clause-found
returns-clause-found c = grind (arith, common_steps)
