-- Usable starts are searched among the aligned starts, up from the least and down from the greatest. An aligned start
-- is a multiple of 8 at which the file's data are aligned. Neighbouring aligned starts are one step apart: the alignment
-- of the data, but at least 8 (`widened`). The steps:
-- 1. At an aligned start the data are at a multiple of the step, so two aligned starts are at least a step apart.
-- 2. Upwards: the least start that leaves room for a pad is lawful, and if it is not usable, a usable one is at least a
--    step after it.
-- 3. Downwards: if the greatest aligned start with which the file ends at most at the greatest usable edge is not
--    usable, the next lower aligned start is.
use Rattle.std.proofs.Common.{◌≡◌, ℕ, ◌+◌, ◌-◌, ◌%◌, ◌<◌, ◌≤◌, inl, inr, subst, arith, Bool, false, IsTrue}
use Rattle.fv_base.proofs.Laws.{common_steps, up_to_8, cases_lt}
use Rattle.std.proofs.Math.Nat.{mod_self, mod-eq-sub-mod}
use Rattle.fv_placement.specs.Words.{Lawful}
use Rattle.fv_placement.specs.declared.first_placement.PlacementItem.{PlacementItem}
use Rattle.fv_placement.specs.declared.reach.Reach.{Reach}
use Rattle.fv_placement.specs.inner.Reaches.{IsUsableEdge, IsUsableStart, Widens}
use Rattle.fv_placement.proofs.MultipleLaws.{multiples_apart, eighth_sum, eighth_difference}
use Rattle.fv_placement.proofs.ReachLaws.{usable_most}

pub not_true : (b : Bool) → b ≡ false → IsTrue b → ⊥
not_true b e h = grind (arith, common_steps)

pub never_true : IsTrue false → ⊥
never_true h = cc

-- ---- 1. a step apart

-- if the data are at a multiple of the step, the start is a multiple of 8 and the data are aligned
pub start_at : (f : PlacementItem) (a s : ℕ) → Widens a f.alignment → f.header % 8 ≡ 0 → (s + f.header) % a ≡ 0
    → (s % 8 ≡ 0) × ((s + f.header) % f.alignment ≡ 0)
start_at f a s w h m = let both = w.both (s + f.header) m in (eighth_difference s f.header both.0 h, both.1)

-- the data of a usable start are at a multiple of the step
data_at : (total : ℕ) (f : PlacementItem) (r : Reach) (a t : ℕ) → Widens a f.alignment → f.header % 8 ≡ 0 → IsUsableStart total f r t
    → (t + f.header) % a ≡ 0
data_at total f r a t w h v = w.joined (t + f.header) (eighth_sum t f.header v.eighth h) v.aligned

step_apart : (f : PlacementItem) (a s t : ℕ) → Widens a f.alignment → (s + f.header) % a ≡ 0 → (t + f.header) % a ≡ 0 → s < t → s + a ≤ t
step_apart f a s t w p q l = grind (arith, common_steps, multiples_apart)

-- if s is not usable, a usable start is at least a step after it or at least a step before it
pub after_missed : (total : ℕ) (f : PlacementItem) (r : Reach) (a s t : ℕ) → Widens a f.alignment → f.header % 8 ≡ 0
    → (s + f.header) % a ≡ 0 → (IsUsableStart total f r s → ⊥) → IsUsableStart total f r t → s ≤ t → s + a ≤ t
after_missed total f r a s t w h m not v l = elim (cases_lt s t) [
  | inl less ↦ step_apart f a s t w m (data_at total f r a t w h v) less
  | inr same ↦ let is : t ≡ s = omega arith in absurd (not (subst (λ n. IsUsableStart total f r n) is v))
]

before_missed : (total : ℕ) (f : PlacementItem) (r : Reach) (a s t : ℕ) → Widens a f.alignment → f.header % 8 ≡ 0
    → (s + f.header) % a ≡ 0 → (IsUsableStart total f r s → ⊥) → IsUsableStart total f r t → t ≤ s → t + a ≤ s
before_missed total f r a s t w h m not v l = elim (cases_lt t s) [
  | inl less ↦ step_apart f a t s w (data_at total f r a t w h v) m less
  | inr same ↦ let is : t ≡ s = omega arith in absurd (not (subst (λ n. IsUsableStart total f r n) is v))
]

-- ---- 2. up

-- d is the least place of the data that leaves room for a pad after the edge e. If the file cannot begin at the edge, a
-- lawful start that is usable is not below the start with its data at d.
pub from_pad : (total e : ℕ) (f : PlacementItem) (r : Reach) (a d t : ℕ) → Widens a f.alignment → f.header % 8 ≡ 0
    → ((y : ℕ) → y % a ≡ 0 → e + 24 + f.header ≤ y → d ≤ y) → (IsUsableStart total f r e → ⊥) → Lawful e f t → IsUsableStart total f r t
    → d - f.header ≤ t
from_pad total e f r a d t w h least not l v = grind (arith, common_steps, data_at)

pub multiple_next : (s h a : ℕ) → (s + h) % a ≡ 0 → ((s + a) + h) % a ≡ 0
multiple_next s h a p = grind (arith, common_steps, mod-eq-sub-mod)

-- ---- 3. down

multiple_back : (s h a : ℕ) → (s + h) % a ≡ 0 → a ≤ s → ((s - a) + h) % a ≡ 0
multiple_back s h a p l = grind (arith, common_steps, mod-eq-sub-mod)

pub data_back : (d h a : ℕ) → h ≤ d → d % a ≡ 0 → ((d - h) + h) % a ≡ 0
data_back d h a l p = grind (arith, common_steps)

-- d is the greatest multiple of the step with which the file ends at most at the greatest usable edge: no usable start
-- has its data above d
pub data_most : (total : ℕ) (f : PlacementItem) (r : Reach) (a d t : ℕ) → Widens a f.alignment → f.header % 8 ≡ 0
    → ((y : ℕ) → y % a ≡ 0 → y ≤ r.greatest - up_to_8 f.size + f.header → y ≤ d) → IsUsableStart total f r t → t + f.header ≤ d
data_most total f r a d t w h most v = grind (arith, common_steps, data_at, usable_most)

-- if the start with its data at d is not usable, a usable start is at least a step before it
pub below_missed : (total : ℕ) (f : PlacementItem) (r : Reach) (a d t : ℕ) → Widens a f.alignment → f.header % 8 ≡ 0 → d % a ≡ 0
    → f.header ≤ d → ((y : ℕ) → y % a ≡ 0 → y ≤ r.greatest - up_to_8 f.size + f.header → y ≤ d)
    → (IsUsableStart total f r (d - f.header) → ⊥) → IsUsableStart total f r t → t + a ≤ d - f.header
below_missed total f r a d t w h m l most not v =
    let most_data : t + f.header ≤ d = data_most total f r a d t w h most v in
    before_missed total f r a (d - f.header) t w h (data_back d f.header a l m) not v (omega (arith, most_data))

-- s is the greatest aligned start with which the file ends at most at the greatest usable edge. If s is not usable, the
-- file ends 8 or 16 bytes below this edge. So the step is not 8, and the file ends at least 24 bytes below the edge if
-- it begins a step before s.
pub second_serves : (total : ℕ) (f : PlacementItem) (r : Reach) (a s : ℕ) → Widens a f.alignment → f.header % 8 ≡ 0
    → (IsTrue f.top → ⊥) → r.greatest % 8 ≡ 0 → (s + f.header) % a ≡ 0 → s + up_to_8 f.size ≤ r.greatest
    → r.greatest < s + up_to_8 f.size + a → a ≤ s → (IsUsableStart total f r s → ⊥) → IsUsableStart total f r (s - a)
second_serves total f r a s w h top g m below near low not =
    let here = start_at f a s w h m in
    let back = start_at f a (s - a) w h (multiple_back s f.header a m low) in
    is_usable_start (s - a) back (inl (inl (far f.size here.0 (w.both a (mod_self a)).0 below near low (λ e. not (is_usable_start s here (inl (inr e)))))))
  where
    is_usable_start : (n : ℕ) → (n % 8 ≡ 0) × ((n + f.header) % f.alignment ≡ 0) → IsUsableEdge r (up_to_8 (n + f.size)) → IsUsableStart total f r n
    is_usable_start n both u = record { eighth = both.0; aligned = both.1; at_end = λ t. absurd (top t); edge = u }

    far : (n : ℕ) → s % 8 ≡ 0 → a % 8 ≡ 0 → s + up_to_8 n ≤ r.greatest → r.greatest < s + up_to_8 n + a → a ≤ s
        → (up_to_8 (s + n) ≡ r.greatest → ⊥) → up_to_8 ((s - a) + n) + 24 ≤ r.greatest
    far n p q b c l not = elim (cases_lt (up_to_8 (s + n)) r.greatest) [
      | inl less ↦ omega (arith, w.wide)
      | inr same ↦ absurd (not (omega arith))
    ]
