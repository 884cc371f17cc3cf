use Rattle.fv_base.proofs.Laws.{ap, depth_limit, inl, inr}
use Rattle.fv_base.specs.declared.fault.Fault.{Fault}
use Rattle.fv_tree.specs.Words.{outermost}
use Rattle.fv_marks.proofs.NeverFixedLemmas.{bytes_never, sections_never}
use Rattle.fv_marks.proofs.further_laws.no_file_stays_fixed.Goals as goal

pub returns-clause-volume : goal.returns-clause-volume
returns-clause-volume c b o f lost first = bytes_never depth_limit f b o outermost lost first

pub returns-clause-input : goal.returns-clause-input
returns-clause-input c b o f lost (inl first) = bytes_never depth_limit f b o outermost lost first
returns-clause-input c b o f lost (inr (m, front, more, is)) = λ k. cc (ap (λ (x : Fault). x.kind) is, k)

pub returns-clause-stream : goal.returns-clause-stream
returns-clause-stream c b o f lost (inl (more, is)) = λ k. cc (ap (λ (x : Fault). x.kind) is, k)
returns-clause-stream c b o f lost (inr (short, first)) = sections_never depth_limit f b o outermost lost first
