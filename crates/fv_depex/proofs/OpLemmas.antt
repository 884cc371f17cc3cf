-- An op is there exactly if its checks hold. The steps:
-- 1. An op is determined by its code and its GUID (`op_of_code`, `op_back`).
-- 2. If the checks hold, an op is there (`op_stands`), and if an op is there, they hold (`checks_hold`).
-- 3. Bytes begin with at most one op (`same_op`).
use Rattle.std.proofs.Common.{◌≡◌, ◌≤◌, ℕ, [], ◌∷◌, ◌++◌, ◌||◌, if◌then◌else◌, List, length, drop, refl, sym, ap, ◌∙◌, arith, Bool, true}
use Rattle.std.proofs.Common.{false, length-append, length-drop, not, nat_le, slice_index, None, leb-true, le-leb, take-append-drop, length-take-le}
use Rattle.fv_base.proofs.Laws.{common_steps, AllHold, bytes_of, field, all_hold, and_split, same_cut}
use Rattle.fv_base.specs.declared.guid.Guid.{Guid}
use Rattle.fv_base.specs.inner.Verdicts.{first_fault}
use Rattle.fv_depex.specs.Words.{OpFits, BeginsOp, has_operand, holds_values, has_position, has_code, op_checks, carries, op_code, operand_len}
use Rattle.fv_depex.specs.Words.{op_operand, IsSized}
use Rattle.fv_depex.specs.declared.op.Op.{Op}
use Rattle.fv_depex.specs.declared.op.Phase.{Phase}
use Rattle.fv_depex.specs.declared.op_stage.Stage.{Stage}
use Rattle.fv_depex.specs.inner.Ops.{op_by, op_in}
use Rattle.fv_depex.specs.declared.op.Phase.TheVariants.{Pei, Dxe}
use Rattle.fv_depex.specs.declared.op.Op.TheVariants as ops

-- ---- an op by its code

-- a code of some phase is the code of its op, and the op carries the GUID if the code does
pub record IsOpOf (code : ℕ) (g : Guid) (o : Op) : Type 0 where
  pub code_is : op_code o ≡ code
  pub operand_is : op_operand o ≡ (if carries code then bytes_of g else [])

below_10 : (P : ℕ → Type 0) → P 0 → P 1 → P 2 → P 3 → P 4 → P 5 → P 6 → P 7 → P 8 → P 9 → (n : ℕ) → n ≤ 9 → P n
below_10 P a b c d e f g h i j n l = grind (arith, common_steps)

op_of_code : (g : Guid) (code : ℕ) → code ≤ 9 → IsOpOf code g (op_by code g)
op_of_code g = grind (arith, common_steps, below_10)

-- a property that the ops with each code have is a property of every op
pub each_op : (P : Op → Type 0) → ((g : Guid) → P (ops.Before g)) → ((g : Guid) → P (ops.After g)) → ((g : Guid) → P (ops.Push g))
    → P ops.And → P ops.Or → P ops.Not → P ops.True → P ops.False → P ops.End → P ops.Sor → (o : Op) → P o
each_op P a b c d e f g h i j op = grind (arith, common_steps)

-- an op is the op of its code and its GUID
op_back : (o : Op) → op_by (op_code o) (record { bytes = op_operand o }) ≡ o
op_back = each_op (λ o. op_by (op_code o) (record { bytes = op_operand o }) ≡ o) (λ g. refl) (λ g. refl) (λ g. refl)
    refl refl refl refl refl refl refl

known_least : (phase : Phase) (code : ℕ) → has_code phase code ≡ true → code ≤ 9
known_least Pei code h = omega (arith, leb-true code 8 (and_split (nat_le 2 code) (nat_le code 8) h).1)
known_least Dxe code h = leb-true code 9 h

-- ---- the op at the front

cons_of : (r : List ℕ) → 1 ≤ length r → r ≡ slice_index r 0 ∷ drop 1 r
cons_of [] l = absurd (omega (arith, l))
cons_of (x ∷ r) l = refl

-- the checks of an op, by name
record ChecksOfOp (phase : Phase) (stage : Stage) (r : List ℕ) : Type 0 where
  some : nat_le 1 (length r) ≡ true
  known : has_code phase (slice_index r 0) ≡ true
  placed : has_position stage (slice_index r 0) ≡ true
  whole : has_operand r ≡ true
  valued : holds_values stage (slice_index r 0) ≡ true

checks_of_op : (phase : Phase) (stage : Stage) (r : List ℕ) → AllHold (op_checks phase stage r) → ChecksOfOp phase stage r
checks_of_op phase stage r (some, (known, (placed, (whole, (valued, end))))) = grind (arith, common_steps)

-- if the checks hold, the op is there
pub op_stands : (phase : Phase) (stage : Stage) (r : List ℕ) → first_fault (op_checks phase stage r) ≡ None
    → BeginsOp phase stage (op_in r) r
op_stands phase stage r none =
    let checks = checks_of_op phase stage r (all_hold (op_checks phase stage r) none) in
    let code : ℕ = slice_index r 0 in
    let is = op_of_code (record { bytes = field 1 16 r }) code (known_least phase code checks.known) in
    go (carries code) refl is (leb-true 1 (length r) checks.some) checks
  where
    fits : IsOpOf (slice_index r 0) (record { bytes = field 1 16 r }) (op_in r) → ChecksOfOp phase stage r → IsSized (op_in r)
        → OpFits phase stage (op_in r)
    fits is checks sized = record {
      known = ap (has_code phase) is.code_is ∙ checks.known;
      placed = ap (has_position stage) is.code_is ∙ checks.placed;
      valued = ap (holds_values stage) is.code_is ∙ checks.valued;
      sized = sized;
    }

    room : not true || nat_le 17 (length r) ≡ true → 17 ≤ length r
    room h = leb-true 17 (length r) h

    go : (c : Bool) → carries (slice_index r 0) ≡ c → IsOpOf (slice_index r 0) (record { bytes = field 1 16 r }) (op_in r) → 1 ≤ length r
        → ChecksOfOp phase stage r → BeginsOp phase stage (op_in r) r
    go true c is some checks =
        let long : 17 ≤ length r = room (sym (ap (λ (t : Bool). not t || nat_le 17 (length r)) c) ∙ checks.whole) in
        let operand : op_operand (op_in r) ≡ field 1 16 r = is.operand_is ∙ ap (λ (t : Bool). if t then field 1 16 r else []) c in
        let n : length (field 1 16 r) ≡ 16 = length-take-le 16 (drop 1 r) (omega (arith, length-drop 1 r, long)) in
        record {
          fits = fits is checks (ap length operand ∙ n ∙ sym (ap operand_len (ap carries is.code_is ∙ c)));
          rest = drop 16 (drop 1 r);
          joined = cons_of r some ∙ ap (λ (l : List ℕ). slice_index r 0 ∷ l) (sym (take-append-drop 16 (drop 1 r)))
              ∙ ap (λ (k : ℕ). k ∷ (field 1 16 r ++ drop 16 (drop 1 r))) (sym is.code_is)
              ∙ ap (λ (l : List ℕ). op_code (op_in r) ∷ (l ++ drop 16 (drop 1 r))) (sym operand);
        }
    go false c is some checks =
        let operand : op_operand (op_in r) ≡ [] = is.operand_is ∙ ap (λ (t : Bool). if t then field 1 16 r else []) c in
        record {
          fits = fits is checks (ap length operand ∙ sym (ap operand_len (ap carries is.code_is ∙ c)));
          rest = drop 1 r;
          joined = cons_of r some ∙ ap (λ (k : ℕ). k ∷ drop 1 r) (sym is.code_is)
              ∙ ap (λ (l : List ℕ). op_code (op_in r) ∷ (l ++ drop 1 r)) (sym operand);
        }

-- if an op is there, the checks hold
pub checks_hold : (phase : Phase) (stage : Stage) (o : Op) (x : List ℕ) → OpFits phase stage o
    → AllHold (op_checks phase stage (op_code o ∷ (op_operand o ++ x)))
checks_hold phase stage o x fits = grind (arith, common_steps, le-leb, length-append)

-- bytes begin with one op at most
pub same_op : (o p : Op) (x y : List ℕ) → IsSized o → IsSized p → op_code o ∷ (op_operand o ++ x) ≡ op_code p ∷ (op_operand p ++ y)
    → (o ≡ p) × (x ≡ y)
same_op o p x y so sp e = grind (arith, common_steps, same_cut, op_back)

-- an op with the code of END is END
pub end_code : (o : Op) → op_code o ≡ 8 → o ≡ ops.End
end_code o e = sym (op_back o) ∙ ap (λ (k : ℕ). op_by k (record { bytes = op_operand o })) e
