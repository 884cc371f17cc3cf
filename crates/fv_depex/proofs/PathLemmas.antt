-- Ops are a whole expression exactly if they may follow one another, END comes last, and END finds what it needs. Bytes
-- spell at most one list of ops. The steps:
-- 1. Paths are joined (`path_join`), and each op of a path has its whole operand (`path_sized`).
-- 2. The ops up to a stage are the ops of some trees, after SOR or nothing, or they are BEFORE or AFTER
--    (`LeavesStage`). This holds at the start, and with one more op (`leaves_more`). With END, the ops are a whole
--    expression (`leaves_whole`).
-- 3. Conversely, the ops of a tree are a path (`tree_path`), so a whole expression is a path and END (`whole_ended`).
-- 4. Bytes have at most one path (`same_front`), so they spell at most one list of ops (`one_spelling`).
use Rattle.std.proofs.Common.{◌≡◌, ◌≢◌, ◌≤◌, ◌<◌, ℕ, ◌+◌, ◌-◌, [], ◌∷◌, ◌++◌, ◌⊎◌, List, length, drop, inl, inr, refl, sym, ap, ◌∙◌, subst}
use Rattle.std.proofs.Common.{arith, true, false, length-append, append_assoc, append-nil, slice_index, leb-true, le-leb, eqb-true}
use Rattle.fv_base.proofs.Laws.{common_steps, AllByRecursion, and_split}
use Rattle.fv_base.specs.declared.guid.Guid.{Guid}
use Rattle.fv_depex.specs.Words.{OpFits, OpPath, has_values, has_code, stage_after, values_after, values_of, Expression, IsTree, IsOrder, Spells}
use Rattle.fv_depex.specs.Words.{op_code, op_operand, ops_bytes, postfix, IsSized, always, never, installed, negated, both, either}
use Rattle.fv_depex.specs.declared.op.Op.{Op}
use Rattle.fv_depex.specs.declared.op.Phase.{Phase}
use Rattle.fv_depex.specs.declared.op_stage.Stage.{Stage}
use Rattle.fv_depex.specs.declared.op.Phase.TheVariants.{Pei, Dxe}
use Rattle.fv_depex.proofs.OpLemmas.{each_op, end_code, same_op}
use Rattle.fv_depex.specs.declared.op.Op.TheVariants as ops
use Rattle.fv_depex.specs.declared.op_stage.Stage.TheVariants as stages

-- ---- paths, joined

path_join : (phase : Phase) (s m f : Stage) (xs ys : List Op) → OpPath phase s xs m → OpPath phase m ys f → OpPath phase s (xs ++ ys) f
path_join phase s m f [] ys p q = subst (λ (k : Stage). OpPath phase k ys f) (sym p) q
path_join phase s m f (x ∷ xs) ys p q = (p.0, p.1, path_join phase (stage_after s x) m f xs ys p.2 q)

pub path_more : (phase : Phase) (s f : Stage) (xs : List Op) (o : Op) → OpPath phase s xs f → OpFits phase f o → o ≢ ops.End
    → OpPath phase s (xs ++ o ∷ []) (stage_after f o)
path_more phase s f xs o p fits ne = path_join phase s f (stage_after f o) xs (o ∷ []) p (fits, ne, refl)

pub all_join : (xs ys : List Op) → AllByRecursion IsSized xs → AllByRecursion IsSized ys → AllByRecursion IsSized (xs ++ ys)
all_join [] ys a b = b
all_join (x ∷ xs) ys a b = (a.0, all_join xs ys a.1 b)

all_front : (xs ys : List Op) → AllByRecursion IsSized (xs ++ ys) → AllByRecursion IsSized xs
all_front [] ys a = tt
all_front (x ∷ xs) ys a = (a.0, all_front xs ys a.1)

all_behind : (xs ys : List Op) → AllByRecursion IsSized (xs ++ ys) → AllByRecursion IsSized ys
all_behind [] ys a = a
all_behind (x ∷ xs) ys a = all_behind xs ys a.1

pub path_sized : (phase : Phase) (s f : Stage) (xs : List Op) → OpPath phase s xs f → AllByRecursion IsSized xs
path_sized phase s f [] p = tt
path_sized phase s f (x ∷ xs) p = ((p.0).sized, path_sized phase (stage_after s x) f xs p.2)

pub bytes_join : (xs ys : List Op) → ops_bytes (xs ++ ys) ≡ ops_bytes xs ++ ops_bytes ys
bytes_join [] ys = refl
bytes_join (x ∷ xs) ys =
    ap (λ (l : List ℕ). op_code x ∷ l)
    (ap (λ (l : List ℕ). op_operand x ++ l) (bytes_join xs ys) ∙ sym (append_assoc (op_operand x) (ops_bytes xs) (ops_bytes ys)))

-- ---- a path leads to trees

-- the ops of the trees on a stack; the first tree is the top of the stack
abbrev pub stack_ops : List Expression → List Op
stack_ops [] = []
stack_ops (t ∷ ts) = stack_ops ts ++ postfix t

-- SOR, or nothing
abbrev pub IsSor : Phase → List Op → Type 0
IsSor phase sor = (sor ≡ []) ⊎ ((sor ≡ ops.Sor ∷ []) × (phase ≡ Dxe))

-- the ops that were read leave this stage
abbrev pub LeavesStage : Phase → Stage → List Op → Type 0
LeavesStage phase stages.Start os = os ≡ []
LeavesStage phase stages.Ordered os = (phase ≡ Dxe) × (g : Guid) × ((os ≡ ops.Before g ∷ []) ⊎ (os ≡ ops.After g ∷ []))
LeavesStage phase (stages.Values n) os =
    (sor : List Op) × (ts : List Expression) × (os ≡ sor ++ stack_ops ts) × (length ts ≡ n) × IsSor phase sor

-- an op that is a tree puts this tree on the stack
pushed : (phase : Phase) (n : ℕ) (os : List Op) (t : Expression) (o : Op) → postfix t ≡ o ∷ [] → LeavesStage phase (stages.Values n) os
    → LeavesStage phase (stages.Values (n + 1)) (os ++ o ∷ [])
pushed phase n os t o is (sor, ts, e, len, s) = (
  sor,
  t ∷ ts,
  ap (λ (l : List Op). l ++ (o ∷ [])) e ∙ append_assoc sor (stack_ops ts) (o ∷ []) ∙ ap (λ (l : List Op). sor ++ (stack_ops ts ++ l)) (sym is),
  omega (arith, len),
  s,
)

-- AND and OR put one tree in the place of the two trees on top of the stack
two_more : (phase : Phase) (n : ℕ) (os : List Op) (make : Expression → Expression → Expression) (o : Op)
    → ((t u : Expression) → postfix (make t u) ≡ postfix t ++ (postfix u ++ (o ∷ []))) → LeavesStage phase (stages.Values n) os → 2 ≤ n
    → LeavesStage phase (stages.Values (n - 1)) (os ++ o ∷ [])
two_more phase n os make o made (sor, [], e, len, s) some = absurd (omega (arith, len, some))
two_more phase n os make o made (sor, u ∷ [], e, len, s) some = absurd (omega (arith, len, some))
two_more phase n os make o made (sor, u ∷ t ∷ ts, e, len, s) some =
    (sor, make t u ∷ ts, ap (λ (l : List Op). l ++ (o ∷ [])) e ∙ rw (made t u) (simp append_assoc), omega (arith, len), s)

-- the ops that were read, with an op that finds enough values, leave the number of values after it
values_more : (phase : Phase) (n : ℕ) (os : List Op) (o : Op) → LeavesStage phase (stages.Values n) os → 2 ≤ op_code o → op_code o < 8
    → has_values n (op_code o) ≡ true
    → LeavesStage phase (stages.Values (values_after n o)) (os ++ o ∷ [])
values_more phase n os (ops.Before g) h low high v = absurd (omega (arith, low))
values_more phase n os (ops.After g) h low high v = absurd (omega (arith, low))
values_more phase n os (ops.Push g) h low high v = pushed phase n os (installed g) (ops.Push g) refl h
values_more phase n os ops.True h low high v = pushed phase n os always ops.True refl h
values_more phase n os ops.False h low high v = pushed phase n os never ops.False refl h
values_more phase n os ops.Not (sor, [], e, len, s) low high v = absurd (omega (arith, len, leb-true 1 n v))
values_more phase n os ops.Not (sor, t ∷ ts, e, len, s) low high v =
    (sor, negated t ∷ ts, ap (λ (l : List Op). l ++ (ops.Not ∷ [])) e ∙ simp append_assoc, len, s)
values_more phase n os ops.And h low high v = two_more phase n os both ops.And (λ t u. refl) h (leb-true 2 n v)
values_more phase n os ops.Or h low high v = two_more phase n os either ops.Or (λ t u. refl) h (leb-true 2 n v)
values_more phase n os ops.End h low high v = absurd (omega (arith, high))
values_more phase n os ops.Sor h low high v = absurd (omega (arith, high))

begun : (phase : Phase) (os : List Op) → os ≡ [] → LeavesStage phase (stages.Values 0) os
begun phase os e = ([], [], e, refl, inl refl)

-- a code that PEI does not have is a code of DXE
no_pei : (phase : Phase) (code : ℕ) → has_code phase code ≡ true → has_code Pei code ≡ false → phase ≡ Dxe
no_pei Dxe code known none = refl
no_pei Pei code known none = cc

value_code : (o : Op) → 2 ≤ op_code o → op_code o ≤ 8 → o ≢ ops.End → op_code o < 8
value_code o low high ne = grind (arith, common_steps, end_code)

-- the stage after an op on values is the number of values after it
after_values : (stage : Stage) (o : Op) → 2 ≤ op_code o → stage_after stage o ≡ stages.Values (values_after (values_of stage) o)
after_values stage = grind (arith, common_steps, each_op)

placed_values : (phase : Phase) (n : ℕ) (os : List Op) (o : Op) → LeavesStage phase (stages.Values n) os → OpFits phase (stages.Values n) o
    → o ≢ ops.End
    → LeavesStage phase (stage_after (stages.Values n) o) (os ++ o ∷ [])
placed_values phase n os o h fits ne = grind (arith, common_steps, and_split, leb-true, after_values, values_more, value_code)

start_value : (phase : Phase) (os : List Op) (o : Op) → LeavesStage phase stages.Start os → OpFits phase stages.Start o → 2 ≤ op_code o
    → op_code o < 8 → LeavesStage phase (stages.Values (values_after 0 o)) (os ++ o ∷ [])
start_value phase os o h fits low high = values_more phase 0 os o (begun phase os h) low high fits.valued

-- the ops that were read, with one more op, leave the stage after it
pub leaves_more : (phase : Phase) (stage : Stage) (os : List Op) (o : Op) → LeavesStage phase stage os → OpFits phase stage o → o ≢ ops.End
    → LeavesStage phase (stage_after stage o) (os ++ o ∷ [])
leaves_more phase stages.Start os (ops.Before g) h fits ne =
    (no_pei phase 0 fits.known refl, g, inl (ap (λ (l : List Op). l ++ (ops.Before g ∷ [])) h))
leaves_more phase stages.Start os (ops.After g) h fits ne =
    (no_pei phase 1 fits.known refl, g, inr (ap (λ (l : List Op). l ++ (ops.After g ∷ [])) h))
leaves_more phase stages.Start os ops.Sor h fits ne =
    (ops.Sor ∷ [], [], ap (λ (l : List Op). l ++ (ops.Sor ∷ [])) h, refl, inr (refl, no_pei phase 9 fits.known refl))
leaves_more phase stages.Start os ops.End h fits ne = absurd (ne refl)
leaves_more phase stages.Start os (ops.Push g) h fits ne = start_value phase os (ops.Push g) h fits (omega arith) (omega arith)
leaves_more phase stages.Start os ops.And h fits ne = start_value phase os ops.And h fits (omega arith) (omega arith)
leaves_more phase stages.Start os ops.Or h fits ne = start_value phase os ops.Or h fits (omega arith) (omega arith)
leaves_more phase stages.Start os ops.Not h fits ne = start_value phase os ops.Not h fits (omega arith) (omega arith)
leaves_more phase stages.Start os ops.True h fits ne = start_value phase os ops.True h fits (omega arith) (omega arith)
leaves_more phase stages.Start os ops.False h fits ne = start_value phase os ops.False h fits (omega arith) (omega arith)
leaves_more phase stages.Ordered os o h fits ne = absurd (ne (end_code o (eqb-true (op_code o) 8 fits.placed)))
leaves_more phase (stages.Values n) os o h fits ne = placed_values phase n os o h fits ne

-- the ops that were read, with END, are a whole expression
pub leaves_whole : (phase : Phase) (stage : Stage) (os : List Op) → LeavesStage phase stage os → OpFits phase stage ops.End
    → ((t : Expression) × IsTree phase (os ++ ops.End ∷ []) t) ⊎ IsOrder phase (os ++ ops.End ∷ [])
leaves_whole phase stages.Start os h fits = let no_values : false ≡ true = fits.valued in cc
leaves_whole phase stages.Ordered os (dxe, g, which) fits = inr (record { guid = g; joined = joined which; dxe = dxe }) where
  joined : (os ≡ ops.Before g ∷ []) ⊎ (os ≡ ops.After g ∷ [])
      → (os ++ ops.End ∷ [] ≡ ops.Before g ∷ ops.End ∷ []) ⊎ (os ++ ops.End ∷ [] ≡ ops.After g ∷ ops.End ∷ [])
  joined (inl e) = inl (ap (λ (l : List Op). l ++ (ops.End ∷ [])) e)
  joined (inr e) = inr (ap (λ (l : List Op). l ++ (ops.End ∷ [])) e)
leaves_whole phase (stages.Values n) os (sor, ts, e, len, s) fits = one ts e (len ∙ eqb-true n 1 fits.valued) where
  one : (us : List Expression) → os ≡ sor ++ stack_ops us → length us ≡ 1
      → ((t : Expression) × IsTree phase (os ++ ops.End ∷ []) t) ⊎ IsOrder phase (os ++ ops.End ∷ [])
  one [] e l = absurd (omega (arith, l))
  one (t ∷ []) e l =
      inl (
        t,
        record {
          sor = sor;
          joined = ap (λ (k : List Op). k ++ (ops.End ∷ [])) e ∙ append_assoc sor (postfix t) (ops.End ∷ []);
          sor_is = s;
        },
      )
  one (t ∷ u ∷ us) e l = absurd (omega (arith, l))

-- ---- trees lead to a path

knows_value : (phase : Phase) (code : ℕ) → 2 ≤ code → code ≤ 8 → has_code phase code ≡ true
knows_value Pei code low high = rw (le-leb 2 code low, le-leb code 8 high) refl
knows_value Dxe code low high = le-leb code 9 (omega (arith, high))

fits_value : (phase : Phase) (n : ℕ) (o : Op) → 2 ≤ op_code o → op_code o ≤ 8 → has_values n (op_code o) ≡ true → IsSized o
    → OpFits phase (stages.Values n) o
fits_value phase n o low high values sized = grind (arith, common_steps, knows_value, le-leb)

two_paths : (phase : Phase) (n : ℕ) (t u : Expression) (o : Op) → OpPath phase (stages.Values n) (postfix t) (stages.Values (n + 1))
    → OpPath phase (stages.Values (n + 1)) (postfix u) (stages.Values (n + 1 + 1))
    → OpFits phase (stages.Values (n + 1 + 1)) o → o ≢ ops.End → stage_after (stages.Values (n + 1 + 1)) o ≡ stages.Values (n + 1)
    → OpPath phase (stages.Values n) (postfix t ++ (postfix u ++ (o ∷ []))) (stages.Values (n + 1))
two_paths phase n t u o p q fits ne after = grind (arith, common_steps, path_join)

one_less : (n : ℕ) → n + 1 + 1 - 1 ≡ n + 1
one_less n = omega arith

tree_path : (phase : Phase) (n : ℕ) (t : Expression) → AllByRecursion IsSized (postfix t)
    → OpPath phase (stages.Values n) (postfix t) (stages.Values (n + 1))
tree_path phase n always sized = (fits_value phase n ops.True (omega arith) (omega arith) refl refl, λ e. cc, refl)
tree_path phase n never sized = (fits_value phase n ops.False (omega arith) (omega arith) refl refl, λ e. cc, refl)
tree_path phase n (installed g) sized = (fits_value phase n (ops.Push g) (omega arith) (omega arith) refl sized.0, λ e. cc, refl)
tree_path phase n (negated t) sized =
    path_join phase (stages.Values n) (stages.Values (n + 1)) (stages.Values (n + 1)) (postfix t) (ops.Not ∷ [])
    (tree_path phase n t (all_front (postfix t) (ops.Not ∷ []) sized))
    (fits_value phase (n + 1) ops.Not (omega arith) (omega arith) (le-leb 1 (n + 1) (omega arith)) refl, λ e. cc, refl)
tree_path phase n (both t u) sized =
    two_paths phase n t u ops.And (tree_path phase n t (all_front (postfix t) (postfix u ++ ops.And ∷ []) sized))
    (tree_path phase (n + 1) u (all_front (postfix u) (ops.And ∷ []) (all_behind (postfix t) (postfix u ++ ops.And ∷ []) sized)))
    (fits_value phase (n + 1 + 1) ops.And (omega arith) (omega arith) (le-leb 2 (n + 1 + 1) (omega arith)) refl) (λ e. cc)
    (ap (λ (k : ℕ). stages.Values k) (one_less n))
tree_path phase n (either t u) sized =
    two_paths phase n t u ops.Or (tree_path phase n t (all_front (postfix t) (postfix u ++ ops.Or ∷ []) sized))
    (tree_path phase (n + 1) u (all_front (postfix u) (ops.Or ∷ []) (all_behind (postfix t) (postfix u ++ ops.Or ∷ []) sized)))
    (fits_value phase (n + 1 + 1) ops.Or (omega arith) (omega arith) (le-leb 2 (n + 1 + 1) (omega arith)) refl) (λ e. cc)
    (ap (λ (k : ℕ). stages.Values k) (one_less n))

-- a path from an empty stack is a path from the start, if it has an op
from_start : (phase : Phase) (f : Stage) (o : Op) (os : List Op) → OpPath phase (stages.Values 0) (o ∷ os) f
    → OpPath phase stages.Start (o ∷ os) f
from_start phase f o os p = grind (arith, common_steps, and_split, leb-true, after_values)

some_ops : (t : Expression) → 1 ≤ length (postfix t)
some_ops always = omega arith
some_ops never = omega arith
some_ops (installed g) = omega arith
some_ops (negated t) = omega (arith, length-append (postfix t) (ops.Not ∷ []))
some_ops (both t u) = omega (arith, length-append (postfix t) (postfix u ++ ops.And ∷ []), some_ops t)
some_ops (either t u) = omega (arith, length-append (postfix t) (postfix u ++ ops.Or ∷ []), some_ops t)

start_path : (phase : Phase) (f : Stage) (os : List Op) → 1 ≤ length os → OpPath phase (stages.Values 0) os f
    → OpPath phase stages.Start os f
start_path phase f [] l p = absurd (omega (arith, l))
start_path phase f (o ∷ os) l p = from_start phase f o os p

-- the ops of a whole expression are a path, and then END
pub record IsEnded (phase : Phase) (all : List Op) : Type 0 where
  pub front : List Op
  pub stage : Stage
  pub joined : all ≡ front ++ (ops.End ∷ [])
  pub path : OpPath phase stages.Start front stage
  pub ended : OpFits phase stage ops.End

tree_ended : (phase : Phase) (all sor : List Op) (t : Expression) → all ≡ sor ++ (postfix t ++ (ops.End ∷ [])) → IsSor phase sor
    → AllByRecursion IsSized all → IsEnded phase all
tree_ended phase all sor t e s sized = record {
  front = sor ++ postfix t;
  stage = stages.Values (0 + 1);
  joined = e ∙ sym (append_assoc sor (postfix t) (ops.End ∷ []));
  path = path s;
  ended = fits_value phase (0 + 1) ops.End (omega arith) (omega arith) refl refl;
} where
  parts : AllByRecursion IsSized (postfix t)
  parts = all_front (postfix t) (ops.End ∷ [])
      (all_behind sor (postfix t ++ (ops.End ∷ [])) (subst (λ (l : List Op). AllByRecursion IsSized l) e sized))

  path : IsSor phase sor → OpPath phase stages.Start (sor ++ postfix t) (stages.Values (0 + 1))
  path (inl none) = rw none (start_path phase (stages.Values (0 + 1)) (postfix t) (some_ops t) (tree_path phase 0 t parts))
  path (inr (is, dxe)) = rw is (
    record { known = subst (λ (p : Phase). has_code p 9 ≡ true) (sym dxe) refl; placed = refl; valued = refl; sized = refl },
    λ e. cc,
    tree_path phase 0 t parts,
  )

order_ended : (phase : Phase) (all : List Op) (o : Op) → all ≡ o ∷ ops.End ∷ [] → phase ≡ Dxe → has_code Dxe (op_code o) ≡ true
    → AllByRecursion IsSized all → stage_after stages.Start o ≡ stages.Ordered → o ≢ ops.End → has_values 0 (op_code o) ≡ true
    → IsEnded phase all
order_ended phase all o e dxe known sized after ne values = record {
  front = o ∷ [];
  stage = stages.Ordered;
  joined = e;
  path = (
    record {
      known = rw dxe known;
      placed = refl;
      valued = values;
      sized = (subst (λ (l : List Op). AllByRecursion IsSized l) e sized).0;
    },
    ne,
    after,
  );
  ended = record { known = rw dxe refl; placed = refl; valued = refl; sized = refl };
}

pub whole_ended : (phase : Phase) (all : List Op) (rest b : List ℕ) → Spells phase all rest b → IsEnded phase all
whole_ended phase all rest b spells = grind (arith, common_steps, tree_ended, order_ended)

-- ---- bytes have at most one path

-- the rest of a path after its first ops
pub record ContinuesPath (phase : Phase) (os xs : List Op) (f g : Stage) (r y : List ℕ) : Type 0 where
  pub more : List Op
  pub ops_are : xs ≡ os ++ more
  pub bytes_are : r ≡ ops_bytes more ++ (8 ∷ y)
  pub path : OpPath phase f more g

pub same_front : (phase : Phase) (s f g : Stage) (os xs : List Op) (r y : List ℕ) → OpPath phase s os f → OpPath phase s xs g
    → ops_bytes os ++ r ≡ ops_bytes xs ++ (8 ∷ y) → ContinuesPath phase os xs f g r y
same_front phase s f g [] xs r y p q e =
    record { more = xs; ops_are = refl; bytes_are = e; path = subst (λ (k : Stage). OpPath phase k xs g) p q }
same_front phase s f g (o ∷ os) [] r y p q e = absurd (p.1 (end_code o (ap (λ (l : List ℕ). slice_index l 0) e)))
same_front phase s f g (o ∷ os) (x ∷ xs) r y p q e =
    let left : op_code o ∷ (op_operand o ++ (ops_bytes os ++ r)) ≡ op_code x ∷ (op_operand x ++ (ops_bytes xs ++ (8 ∷ y))) =
    ap (λ (l : List ℕ). op_code o ∷ l) (sym (append_assoc (op_operand o) (ops_bytes os) r)) ∙ e
    ∙ ap (λ (l : List ℕ). op_code x ∷ l) (append_assoc (op_operand x) (ops_bytes xs) (8 ∷ y)) in
    let same = same_op o x (ops_bytes os ++ r) (ops_bytes xs ++ (8 ∷ y)) (p.0).sized (q.0).sized left in
    let q' : OpPath phase (stage_after s o) xs g = subst (λ (k : Op). OpPath phase (stage_after s k) xs g) (sym same.0) q.2 in
    let k = same_front phase (stage_after s o) f g os xs r y p.2 q' same.1 in
    record {
      more = k.more;
      ops_are = ap (λ (l : List Op). l ++ xs) (ap (λ (z : Op). z ∷ []) (sym same.0)) ∙ ap (λ (l : List Op). o ∷ l) k.ops_are;
      bytes_are = k.bytes_are;
      path = k.path;
    }

pub ended_bytes : (front : List Op) (rest : List ℕ) → ops_bytes (front ++ (ops.End ∷ [])) ++ rest ≡ ops_bytes front ++ (8 ∷ rest)
ended_bytes front rest = ap (λ (l : List ℕ). l ++ rest) (bytes_join front (ops.End ∷ [])) ∙ append_assoc (ops_bytes front) (8 ∷ []) rest

-- bytes spell at most one list of ops, with one rest
pub one_spelling : (phase : Phase) (xs ys : List Op) (r s b : List ℕ) → Spells phase xs r b → Spells phase ys s b → (ys ≡ xs) × (s ≡ r)
one_spelling phase xs ys r s b p q =
    let x = whole_ended phase xs r b p in
    let y = whole_ended phase ys s b q in
    let left : b ≡ ops_bytes x.front ++ (8 ∷ r) = p.joined ∙ ap (λ (l : List Op). ops_bytes l ++ r) x.joined ∙ ended_bytes x.front r in
    let right : b ≡ ops_bytes y.front ++ (8 ∷ s) = q.joined ∙ ap (λ (l : List Op). ops_bytes l ++ s) y.joined ∙ ended_bytes y.front s in
    let k = same_front phase stages.Start x.stage y.stage x.front y.front (8 ∷ r) s x.path y.path (sym left ∙ right) in
    let n = none_more phase x.stage y.stage k.more r s k.path k.bytes_are in
    let fronts : y.front ≡ x.front = k.ops_are ∙ ap (λ (l : List Op). x.front ++ l) n.0 ∙ append-nil x.front in
    (y.joined ∙ ap (λ (l : List Op). l ++ (ops.End ∷ [])) fronts ∙ sym x.joined, n.1)
  where
    none_more : (phase : Phase) (f g : Stage) (more : List Op) (r s : List ℕ) → OpPath phase f more g → 8 ∷ r ≡ ops_bytes more ++ (8 ∷ s)
        → (more ≡ []) × (s ≡ r)
    none_more phase f g [] r s p e = (refl, sym (ap (drop 1) e))
    none_more phase f g (o ∷ os) r s p e = absurd (p.1 (end_code o (sym (ap (λ (l : List ℕ). slice_index l 0) e))))

-- if bytes spell some ops and a rest, the bytes that are written for these ops and this rest spell them too
pub spelled_again : (phase : Phase) (all : List Op) (rest b c : List ℕ) → Spells phase all rest b → c ≡ ops_bytes all ++ rest
    → Spells phase all rest c
spelled_again phase all rest b c spells e = record { joined = e; is_expression = spells.is_expression; sized = spells.sized }
