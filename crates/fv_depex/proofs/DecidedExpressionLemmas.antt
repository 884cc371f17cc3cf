-- Bytes begin with an expression, or have a first fault: the ops are read one by one, and each is END, or has a fault, or
-- the next one is read. An expression is a tree, or BEFORE or AFTER, and never both.
use Rattle.std.proofs.Common.{◌≡◌, ◌⊎◌, ◌<◌, ℕ, zero, suc, ◌+◌, [], ◌∷◌, ◌++◌, ◌==◌, List, length, drop, refl, sym, ◌∙◌, arith, inl, inr}
use Rattle.std.proofs.Common.{eqb-true, Option, None, Some}
use Rattle.std.proofs.lemmas.Bool.{cases_Bool, eqb-false}
use Rattle.fv_base.proofs.Laws.{first_is}
use Rattle.fv_base.specs.inner.Verdicts.{first_fault}
use Rattle.fv_depex.specs.Words.{BeginsOp, Expression, IsFirstOpFault, IsOrder, IsTree, Spells, carries, op_checks, op_code, operand_len, stage_after}
use Rattle.fv_depex.specs.inner.Ops.{op_in}
use Rattle.fv_depex.specs.declared.fault.DepexFault.{DepexFault}
use Rattle.fv_depex.specs.declared.fault.DepexFaultKind.{DepexFaultKind}
use Rattle.fv_depex.specs.declared.op.Op.{Op}
use Rattle.fv_depex.specs.declared.op.Phase.{Phase}
use Rattle.fv_depex.specs.declared.op_stage.Stage.{Stage}
use Rattle.fv_depex.proofs.OpLemmas.{op_stands}
use Rattle.fv_depex.proofs.OpReadLemmas.{OpsKept, ended, first_fault_at, kept, kept_none}
use Rattle.fv_depex.proofs.TruthLemmas.{none_of_order, truth_of_tree}
use Rattle.fv_depex.specs.declared.op_stage.Stage.TheVariants as stages

module _ (phase : Phase) (b : List ℕ) where
  -- the bytes begin with an expression, or have a first fault
  abbrev pub Decided : Type 0
  Decided = ((ops : List Op) × (rest : List ℕ) × Spells phase ops rest b) ⊎ ((f : DepexFault) × IsFirstOpFault phase b f)

  -- from ops that were read up to a place, the walk finds an expression or a first fault in n steps
  abbrev GoesOn : ℕ → Type 0
  GoesOn n = (items : List Op) (at : ℕ) (stage : Stage) → OpsKept phase b items at stage → length b < at + n → Decided

  walk : (n : ℕ) → GoesOn n
  walk zero items at stage k short = absurd (omega (arith, k.inside, short))
  walk (suc n) items at stage k short = go (walk n) (first_fault (op_checks phase stage (drop at b))) refl where
    go : GoesOn n → (o : Option DepexFaultKind) → first_fault (op_checks phase stage (drop at b)) ≡ o → Decided
    go on (Some kind) is =
        let f : DepexFault = record { kind = kind; offset = at } in
        inr (f, first_fault_at phase b items at stage f k refl (first_is (op_checks phase stage (drop at b)) kind is))
    go on None is =
        let o : Op = op_in (drop at b) in
        let len : ℕ = 1 + operand_len (carries (op_code o)) in
        let begins : BeginsOp phase stage o (drop at b) = op_stands phase stage (drop at b) is in
        elim (cases_Bool (op_code o == 8)) [
          | inl end ↦
              let e = ended phase b items (items ++ o ∷ []) o at len stage k begins refl (eqb-true (op_code o) 8 end) refl in
              inl (items ++ o ∷ [], drop (at + len) b, e.1)
          | inr other ↦
              on (items ++ o ∷ []) (at + len) (stage_after stage o)
              (kept phase b items (items ++ o ∷ []) o at len stage (stage_after stage o) k begins refl (eqb-false (op_code o) 8 other) refl refl)
              (omega (arith, short))
        ]

  pub expression_decided : Decided
  expression_decided = walk (suc (length b)) [] 0 stages.Start (kept_none phase b [] refl) (omega arith)

-- a tree has a truth value, and BEFORE and AFTER have none
pub no_tree : (phase : Phase) (all : List Op) (t : Expression) → IsTree phase all t → IsOrder phase all → ⊥
no_tree phase all t tree order =
    let value = sym (truth_of_tree [] phase all t tree) ∙ none_of_order [] phase all order in
    cc
