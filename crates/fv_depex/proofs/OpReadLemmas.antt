-- The loop over the ops reads a whole expression, or finds the first fault. The steps:
-- 1. The bytes up to a place are the bytes of the ops that were read (`OpsKept`): at first of no ops (`kept_none`), and
--    then of one more op (`one_more`, `kept`).
-- 2. With END, the bytes spell a whole expression (`ended`).
-- 3. Memory runs out only if the bytes begin with an op (`stands_first`, `spells_first`). No check has OutOfMemory as
--    its fault (`no_want`).
-- 4. The fault of the next op is the first fault (`first_fault_at`), and bytes with a first fault do not spell an
--    expression (`none_after`).
use Rattle.std.proofs.Common.{◌≡◌, ◌≢◌, ◌≤◌, ℕ, ◌+◌, [], ◌∷◌, ◌++◌, ◌⊎◌, suc, List, length, take, drop, refl, sym, ap, ◌∙◌, subst, arith}
use Rattle.std.proofs.Common.{length-append, length-drop, append_assoc, append-nil, length-take-le, take-append-drop, take_at}
use Rattle.fv_base.proofs.Laws.{common_steps, AllByRecursion, take-add, IsFirstFault, first_among, none_faulty, not_first}
use Rattle.fv_depex.specs.Words.{BeginsFirstOp, OpFits, IsFirstOpFault, BeginsOp, OpPath, op_checks, stage_after, values_of, Expression, IsTree}
use Rattle.fv_depex.specs.Words.{IsOrder, IsSized, Spells, carries, op_code, operand_len, op_operand, ops_bytes}
use Rattle.fv_depex.specs.declared.fault.DepexFault.{DepexFault}
use Rattle.fv_depex.specs.declared.fault.DepexFaultKind.{DepexFaultKind}
use Rattle.fv_depex.specs.declared.op.Op.{Op}
use Rattle.fv_depex.specs.declared.op.Phase.{Phase}
use Rattle.fv_depex.specs.declared.op_stage.Stage.{Stage}
use Rattle.fv_depex.proofs.OpLemmas.{checks_hold, each_op, end_code}
use Rattle.fv_depex.proofs.PathLemmas.{LeavesStage, all_join, bytes_join, ended_bytes, leaves_more, leaves_whole, path_more, path_sized, same_front}
use Rattle.fv_depex.proofs.PathLemmas.{whole_ended}
use Rattle.fv_depex.specs.declared.fault.DepexFaultKind.TheVariants as kinds
use Rattle.fv_depex.specs.declared.op.Op.TheVariants as ops
use Rattle.fv_depex.specs.declared.op_stage.Stage.TheVariants as stages

-- the ops that were read make up the bytes up to a place
pub record OpsKept (phase : Phase) (b : List ℕ) (items : List Op) (at : ℕ) (stage : Stage) : Type 0 where
  pub path : OpPath phase stages.Start items stage
  pub leaves : LeavesStage phase stage items
  pub bytes : take at b ≡ ops_bytes items
  pub inside : at ≤ length b
  pub few : values_of stage ≤ at

pub kept_none : (phase : Phase) (b : List ℕ) (items : List Op) → items ≡ [] → OpsKept phase b items 0 stages.Start
kept_none phase b items e = grind (arith, common_steps)

few_more : (stage : Stage) (o : Op) → values_of (stage_after stage o) ≤ values_of stage + 1
few_more stage = grind (arith, common_steps, each_op)

-- the ops with one more op make up the bytes up to its end
pub record OneMoreOp (b : List ℕ) (items : List Op) (o : Op) (at n : ℕ) : Type 0 where
  pub bytes : take (at + n) b ≡ ops_bytes (items ++ o ∷ [])
  pub inside : at + n ≤ length b

pub one_more : (phase : Phase) (b : List ℕ) (items : List Op) (o : Op) (at n : ℕ) (stage : Stage) → OpsKept phase b items at stage
    → BeginsOp phase stage o (drop at b)
    → n ≡ 1 + operand_len (carries (op_code o)) → OneMoreOp b items o at n
one_more phase b items o at n stage k stands len =
    let size : n ≡ length (op_code o ∷ op_operand o) =
    len ∙ ap (λ (m : ℕ). 1 + m) (sym (stands.fits).sized) ∙ next (length (op_operand o)) in
    let whole : drop at b ≡ (op_code o ∷ op_operand o) ++ stands.rest = stands.joined in
    let part : take n (drop at b) ≡ op_code o ∷ op_operand o =
    ap (take n) whole ∙ take_at (op_code o ∷ op_operand o) stands.rest n (sym size) in
    let long : length (drop at b) ≡ n + length stands.rest =
    ap length whole ∙ length-append (op_code o ∷ op_operand o) stands.rest ∙ ap (λ (m : ℕ). m + length stands.rest) (sym size) in
    record {
      bytes = take-add at n b ∙ ap (λ (l : List ℕ). l ++ take n (drop at b)) k.bytes ∙ ap (λ (l : List ℕ). ops_bytes items ++ l)
          (part ∙ ap (λ (l : List ℕ). op_code o ∷ l) (sym (append-nil (op_operand o)))) ∙ sym (bytes_join items (o ∷ []));
      inside = omega (arith, long, length-drop at b, k.inside);
    }
  where
    next : (m : ℕ) → 1 + m ≡ suc m
    next m = omega arith

pub kept : (phase : Phase) (b : List ℕ) (items new : List Op) (o : Op) (at n : ℕ) (stage after : Stage) → OpsKept phase b items at stage
    → BeginsOp phase stage o (drop at b)
    → n ≡ 1 + operand_len (carries (op_code o)) → op_code o ≢ 8 → new ≡ items ++ o ∷ [] → after ≡ stage_after stage o
    → OpsKept phase b new (at + n) after
kept phase b items new o at n stage after k stands len ne new_is after_is =
    let more = one_more phase b items o at n stage k stands len in
    let other : o ≢ ops.End = λ e. ne (ap op_code e) in
    subst (λ (l : List Op). OpsKept phase b l (at + n) after) (sym new_is)
    (subst (λ (s : Stage). OpsKept phase b (items ++ o ∷ []) (at + n) s) (sym after_is) (record {
      path = path_more phase stages.Start stage items o k.path stands.fits other;
      leaves = leaves_more phase stage items o k.leaves stands.fits other;
      bytes = more.bytes;
      inside = more.inside;
      few = omega (arith, few_more stage o, k.few, len);
    }))

pub ended : (phase : Phase) (b : List ℕ) (items new : List Op) (o : Op) (at n : ℕ) (stage : Stage) → OpsKept phase b items at stage
    → BeginsOp phase stage o (drop at b)
    → n ≡ 1 + operand_len (carries (op_code o)) → op_code o ≡ 8 → new ≡ items ++ o ∷ []
    → (at + n ≤ length b) × Spells phase new (drop (at + n) b) b
ended phase b items new o at n stage k stands len is new_is =
    let more = one_more phase b items o at n stage k stands len in
    let end : o ≡ ops.End = end_code o is in
    let fits : OpFits phase stage ops.End = subst (λ (p : Op). OpFits phase stage p) end stands.fits in
    let last : new ≡ items ++ ops.End ∷ [] = new_is ∙ ap (λ (p : Op). items ++ p ∷ []) end in (
      more.inside,
      record {
        joined = sym (take-append-drop (at + n) b) ∙ ap (λ (l : List ℕ). l ++ drop (at + n) b) (more.bytes ∙ ap ops_bytes (sym new_is));
        is_expression = subst (λ (l : List Op). ((t : Expression) × IsTree phase l t) ⊎ IsOrder phase l) (sym last)
            (leaves_whole phase stage items k.leaves fits);
        sized = subst (λ (l : List Op). AllByRecursion IsSized l) (sym last)
            (all_join items (ops.End ∷ []) (path_sized phase stages.Start stage items k.path) (refl, tt));
      },
    )

-- if an op was read, or can be read next, the bytes begin with an op that is allowed as the first op
pub stands_first : (phase : Phase) (b : List ℕ) (items : List Op) (o : Op) (at : ℕ) (stage : Stage) → OpsKept phase b items at stage
    → BeginsOp phase stage o (drop at b) → BeginsFirstOp phase b
stands_first phase b [] o at stage k stands = (
  o,
  subst (λ (s : Stage). BeginsOp phase s o b) (sym k.path)
      (subst (λ (l : List ℕ). BeginsOp phase stage o l) (whole k.bytes) stands),
) where
  whole : take at b ≡ [] → drop at b ≡ b
  whole e = ap (λ (l : List ℕ). l ++ drop at b) (sym e) ∙ take-append-drop at b
stands_first phase b (p ∷ ps) o at stage k stands = (
  p,
  record {
    fits = (k.path).0;
    rest = ops_bytes ps ++ drop at b;
    joined = sym (take-append-drop at b) ∙ ap (λ (l : List ℕ). l ++ drop at b) k.bytes
        ∙ ap (λ (l : List ℕ). op_code p ∷ l) (append_assoc (op_operand p) (ops_bytes ps) (drop at b));
  },
)

pub spells_first : (phase : Phase) (b : List ℕ) (xs : List Op) (s : List ℕ) → Spells phase xs s b → BeginsFirstOp phase b
spells_first phase b xs s spells =
    let x = whole_ended phase xs s b spells in
    go x.stage x.front x.path x.ended (spells.joined ∙ ap (λ (l : List Op). ops_bytes l ++ s) x.joined ∙ ended_bytes x.front s)
  where
    go : (f : Stage) (front : List Op) → OpPath phase stages.Start front f → OpFits phase f ops.End → b ≡ ops_bytes front ++ (8 ∷ s)
        → BeginsFirstOp phase b
    go f [] p fits e = (ops.End, record { fits = subst (λ (t : Stage). OpFits phase t ops.End) (sym p) fits; rest = s; joined = e })
    go f (o ∷ os) p fits e = (
      o,
      record {
        fits = p.0;
        rest = ops_bytes os ++ (8 ∷ s);
        joined = e ∙ ap (λ (l : List ℕ). op_code o ∷ l) (append_assoc (op_operand o) (ops_bytes os) (8 ∷ s));
      },
    )

-- the fault of a check is not OutOfMemory
pub no_want : (phase : Phase) (stage : Stage) (r : List ℕ) (kind : DepexFaultKind) → IsFirstFault (op_checks phase stage r) kind
    → kind ≢ kinds.OutOfMemory
no_want phase stage r kind first =
    first_among (λ (k : DepexFaultKind). k ≢ kinds.OutOfMemory) (op_checks phase stage r) kind
    ((λ t. cc), ((λ t. cc), ((λ t. cc), ((λ t. cc), ((λ t. cc), tt))))) first

-- a fault of the next op is the first fault of the ops
pub first_fault_at : (phase : Phase) (b : List ℕ) (items : List Op) (at : ℕ) (stage : Stage) (f : DepexFault)
    → OpsKept phase b items at stage → f.offset ≡ at → IsFirstFault (op_checks phase stage (drop at b)) f.kind
    → IsFirstOpFault phase b f
first_fault_at phase b items at stage f k place first = grind (arith, common_steps, take-append-drop, length-take-le)

-- if there is a first fault, the bytes do not spell any ops
pub none_after : (phase : Phase) (b : List ℕ) (f : DepexFault) (xs : List Op) (s : List ℕ) → IsFirstOpFault phase b f → Spells phase xs s b
    → ⊥
none_after phase b f xs s here spells =
    let x = whole_ended phase xs s b spells in
    let right : b ≡ ops_bytes x.front ++ (8 ∷ s) =
    spells.joined ∙ ap (λ (l : List Op). ops_bytes l ++ s) x.joined ∙ ended_bytes x.front s in
    let k = same_front phase stages.Start here.stage x.stage here.before x.front here.r s here.read x.path (sym here.joined ∙ right) in
    go x.stage k.more k.path k.bytes_are x.ended
  where
    refuse : (o : Op) (y : List ℕ) → OpFits phase here.stage o → here.r ≡ op_code o ∷ (op_operand o ++ y) → ⊥
    refuse o y fits e =
        let cs = op_checks phase here.stage (op_code o ∷ (op_operand o ++ y)) in
        not_first cs f.kind (subst (λ (l : List ℕ). IsFirstFault (op_checks phase here.stage l) f.kind) e here.kind_is)
        (none_faulty cs (checks_hold phase here.stage o y fits))

    go : (g : Stage) (more : List Op) → OpPath phase here.stage more g → here.r ≡ ops_bytes more ++ (8 ∷ s) → OpFits phase g ops.End → ⊥
    go g [] p e fits = refuse ops.End s (subst (λ (t : Stage). OpFits phase t ops.End) (sym p) fits) e
    go g (o ∷ os) p e fits =
        refuse o (ops_bytes os ++ (8 ∷ s)) p.0 (e ∙ ap (λ (l : List ℕ). op_code o ∷ l) (append_assoc (op_operand o) (ops_bytes os) (8 ∷ s)))
