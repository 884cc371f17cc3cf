-- The ops of a tree leave its truth value, and belong to no other tree. The steps:
-- 1. The ops of a tree leave its truth value on the stack (`run_tree`). So a tree has its truth value
--    (`truth_of_tree`), and BEFORE and AFTER have none (`none_of_order`).
-- 2. A loop runs the ops one by one (`run_step`, `run_none`, `run_end`).
-- 3. Ops build their tree again (`build_tree`), so they are the ops of at most one tree (`one_tree`).
-- 4. An expression that pushes a value is a tree (`pushing_tree`).
use Rattle.std.proofs.Common.{◌≡◌, ◌≤◌, ◌⊎◌, inl, inr, ◌+◌, ℕ, [], ◌∷◌, ◌++◌, length, drop, List, refl, sym, ap, ◌∙◌, Bool, true, false, arith}
use Rattle.std.proofs.Common.{append_assoc, Option, None, Some}
use Rattle.std.specs.List.{list_any}
use Rattle.fv_base.proofs.Laws.{Result, Ok, Err, IfOk, common_steps, drop_all}
use Rattle.fv_base.specs.declared.guid.Guid.{Guid}
use Rattle.fv_depex.specs.inner.Ops.{evaluate_ops, evaluate_op, pushes, top}
use Rattle.fv_depex.specs.Words.{Expression, always, never, installed, negated, both, either, IsTree, IsOrder, postfix, truth}
use Rattle.fv_depex.specs.declared.fault.DepexFault.{DepexFault}
use Rattle.fv_depex.specs.declared.op.Op.{Op}
use Rattle.fv_depex.specs.declared.op.Phase.{Phase}
use Rattle.fv_depex.specs.declared.op.Op.TheVariants as ops

-- the ops of two trees and the op after them, followed by other ops
two_before : (t u : Expression) (o : Op) (os : List Op)
    → (postfix t ++ (postfix u ++ (o ∷ []))) ++ os ≡ postfix t ++ (postfix u ++ (o ∷ os))
two_before t u o os = grind (arith, common_steps, append_assoc)

-- the ops of a tree leave its truth value on top of the stack
run_tree : (set : List Guid) (t : Expression) (s : List Bool) (os : List Op)
    → evaluate_ops set (postfix t ++ os) s ≡ evaluate_ops set os (truth set t ∷ s)
run_tree set always s os = refl
run_tree set never s os = refl
run_tree set (installed g) s os = refl
run_tree set (negated t) s os =
    ap (λ (l : List Op). evaluate_ops set l s) (append_assoc (postfix t) (ops.Not ∷ []) os) ∙ run_tree set t s (ops.Not ∷ os)
run_tree set (both t u) s os =
    ap (λ (l : List Op). evaluate_ops set l s) (two_before t u ops.And os) ∙ run_tree set t s (postfix u ++ (ops.And ∷ os))
    ∙ run_tree set u (truth set t ∷ s) (ops.And ∷ os)
run_tree set (either t u) s os =
    ap (λ (l : List Op). evaluate_ops set l s) (two_before t u ops.Or os) ∙ run_tree set t s (postfix u ++ (ops.Or ∷ os))
    ∙ run_tree set u (truth set t ∷ s) (ops.Or ∷ os)

pub truth_of_tree : (set : List Guid) (phase : Phase) (all : List Op) (t : Expression) → IsTree phase all t
    → evaluate_ops set all [] ≡ Some (truth set t)
truth_of_tree set phase all t is = grind (arith, common_steps, run_tree)

pub none_of_order : (set : List Guid) (phase : Phase) (all : List Op) → IsOrder phase all → evaluate_ops set all [] ≡ None
none_of_order set phase all is = grind (arith, common_steps)

-- ---- the loop over the ops

pub run_step : (set : List Guid) (all : List Op) (s t : List Bool) (o : Op) (i : ℕ) → drop i all ≡ o ∷ drop (i + 1) all
    → evaluate_op set s o ≡ Some t
    → evaluate_ops set all [] ≡ evaluate_ops set (drop i all) s → evaluate_ops set all [] ≡ evaluate_ops set (drop (i + 1) all) t
run_step set all s t o i next done before = grind (arith, common_steps)

pub run_none : (set : List Guid) (all : List Op) (s : List Bool) (o : Op) (i : ℕ) → drop i all ≡ o ∷ drop (i + 1) all
    → evaluate_op set s o ≡ None
    → evaluate_ops set all [] ≡ evaluate_ops set (drop i all) s → None ≡ evaluate_ops set all []
run_none set all s o i next none before = grind (arith, common_steps)

pub run_end : (set : List Guid) (all : List Op) (s : List Bool) (i : ℕ) → length all ≤ i
    → evaluate_ops set all [] ≡ evaluate_ops set (drop i all) s → evaluate_ops set all [] ≡ top s
run_end set all s i past before = before ∙ ap (λ (l : List Op). evaluate_ops set l s) (drop_all i all past)

pub value_truth : (set : List Guid) (phase : Phase) (all : List Op) (r : Result (Option Bool) DepexFault)
    → IfOk r (λ v. v ≡ evaluate_ops set all [])
    → IfOk r (λ v. (t : Expression) → IsTree phase all t → v ≡ Some (truth set t))
value_truth set phase all (Ok v) is = λ t tree. is ∙ truth_of_tree set phase all t tree
value_truth set phase all (Err f) is = tt

pub value_order : (set : List Guid) (phase : Phase) (all : List Op) (r : Result (Option Bool) DepexFault)
    → IfOk r (λ v. v ≡ evaluate_ops set all []) → IfOk r (λ v. IsOrder phase all → v ≡ None)
value_order set phase all (Ok v) is = λ order. is ∙ none_of_order set phase all order
value_order set phase all (Err f) is = tt

-- ---- one tree

-- the trees that ops build, last tree first
abbrev build : List Expression → List Op → List Expression
build ts [] = ts
build ts (ops.Push g ∷ os) = build (installed g ∷ ts) os
build ts (ops.True ∷ os) = build (always ∷ ts) os
build ts (ops.False ∷ os) = build (never ∷ ts) os
build (t ∷ ts) (ops.Not ∷ os) = build (negated t ∷ ts) os
build (u ∷ t ∷ ts) (ops.And ∷ os) = build (both t u ∷ ts) os
build (u ∷ t ∷ ts) (ops.Or ∷ os) = build (either t u ∷ ts) os
build ts (o ∷ os) = build ts os

build_tree : (t : Expression) (ts : List Expression) (os : List Op) → build ts (postfix t ++ os) ≡ build (t ∷ ts) os
build_tree always ts os = refl
build_tree never ts os = refl
build_tree (installed g) ts os = refl
build_tree (negated t) ts os = ap (build ts) (append_assoc (postfix t) (ops.Not ∷ []) os) ∙ build_tree t ts (ops.Not ∷ os)
build_tree (both t u) ts os =
    ap (build ts) (two_before t u ops.And os) ∙ build_tree t ts (postfix u ++ (ops.And ∷ os)) ∙ build_tree u (t ∷ ts) (ops.And ∷ os)
build_tree (either t u) ts os =
    ap (build ts) (two_before t u ops.Or os) ∙ build_tree t ts (postfix u ++ (ops.Or ∷ os)) ∙ build_tree u (t ∷ ts) (ops.Or ∷ os)

built : (phase : Phase) (all : List Op) (t : Expression) → IsTree phase all t → build [] all ≡ t ∷ []
built phase all t is = grind (arith, common_steps, build_tree)

-- ops are the ops of at most one tree
pub one_tree : (phase : Phase) (all : List Op) (t u : Expression) → IsTree phase all t → IsTree phase all u → t ≡ u
one_tree phase all t u p q = same t u (sym (built phase all t p) ∙ built phase all u q) where
  same : (t u : Expression) → t ∷ [] ≡ u ∷ [] → t ≡ u
  same t u e = cc

-- ---- ops that push a value

-- BEFORE and AFTER push no value, so ops that push a value are the ops of a tree
pub pushing_tree : (phase : Phase) (all : List Op) → list_any pushes all ≡ true → ((t : Expression) × IsTree phase all t) ⊎ IsOrder phase all
    → (t : Expression) × IsTree phase all t
pushing_tree phase all some (inl tree) = tree
pushing_tree phase all some (inr order) = let none : list_any pushes all ≡ false = silent order.joined in cc where
  silent : (all ≡ ops.Before order.guid ∷ ops.End ∷ []) ⊎ (all ≡ ops.After order.guid ∷ ops.End ∷ []) → list_any pushes all ≡ false
  silent (inl e) = ap (list_any pushes) e
  silent (inr e) = ap (list_any pushes) e
