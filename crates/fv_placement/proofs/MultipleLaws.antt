-- Laws of the multiples of an alignment, and of edges, which are multiples of 8:
-- 1. Two different multiples of a number are at least this number apart, so there is none between a multiple and the
--    next.
-- 2. The multiples of the step (the alignment, but at least 8) are the common multiples of 8 and of the alignment.
-- 3. Sums and differences of multiples of 8 are multiples of 8.
-- 4. An edge is the next multiple of 8.
use Rattle.std.proofs.Common.{◌≡◌, ℕ, ◌+◌, ◌-◌, ◌*◌, ◌/◌, ◌%◌, ◌^◌, ◌<◌, ◌≤◌, sym, ◌∙◌, ap, subst, arith}
use Rattle.fv_base.proofs.Laws.{common_steps, up_to_8, cases_lt}
use Rattle.fv_placement.specs.inner.Reaches.{Widens}
use Rattle.std.proofs.lemmas.Nat.{pow_below, mod-pow-add}
use Rattle.std.proofs.Math.Nat.{mul-le-mul_left, mul-mod_right, mul-mod_left, mul_comm, div-add-mod, add-zero, add_right_cancel}

-- ---- 1. apart

-- a multiple of the alignment is the alignment times a number
multiple_is : (a x : ℕ) → x % a ≡ 0 → x ≡ a * (x / a)
multiple_is a x p = sym (div-add-mod x a) ∙ (ap (λ n. a * (x / a) + n) p ∙ add-zero (a * (x / a)))

-- a number minus its remainder is a multiple
pub is_multiple : (d x a : ℕ) → d + x % a ≡ x → d % a ≡ 0
is_multiple d x a e = grind (arith, common_steps, add_right_cancel, div-add-mod, mul-mod_right)

-- the smaller of two multiples is smaller by at least the alignment
pub multiples_apart : (a x y : ℕ) → 0 < a → x % a ≡ 0 → y % a ≡ 0 → x < y → x + a ≤ y
multiples_apart a x y h p q l = grind (arith, common_steps, multiple_is, mul_comm, mul-le-mul_left)

-- there is no multiple between a multiple and the next one
pub none_between : (a d y : ℕ) → 0 < a → d % a ≡ 0 → y % a ≡ 0 → y < d + a → y ≤ d
none_between a d y h p q near = grind (arith, common_steps, cases_lt, multiples_apart)

-- ---- 2. the step

-- a multiple of a power of two is a multiple of each smaller power of two
coarser : (d k x : ℕ) → x % 2 ^ (d + k) ≡ 0 → x % 2 ^ k ≡ 0
coarser d k x h = omega (arith, sym (mod-pow-add x d k) ∙ h)

coarser_at : (j k x : ℕ) → k ≤ j → x % 2 ^ j ≡ 0 → x % 2 ^ k ≡ 0
coarser_at j k x l h = let e : j ≡ (j - k) + k = omega arith in coarser (j - k) k x (subst (λ n. x % 2 ^ n ≡ 0) e h)

pub widens_8 : (b k : ℕ) → b ≡ 2 ^ k → b < 8 → Widens 8 b
widens_8 b k e l =
    let low : k ≤ 3 = grind (arith, pow_below 3 k) in record {
      wide = omega arith;
      small = omega arith;
      both = λ x p. (p, subst (λ n. x % n ≡ 0) (sym e) (coarser_at 3 k x low p));
      joined = λ x p q. p;
    }

pub widens_self : (b k : ℕ) → k ≤ 24 → b ≡ 2 ^ k → 8 ≤ b → Widens b b
widens_self b k h e l =
    let high : 3 ≤ k = grind (arith, pow_below k 3) in record {
      wide = l;
      small = omega (arith, pow_below k 25);
      both = λ x p. (coarser_at k 3 x high (subst (λ n. x % n ≡ 0) e p), p);
      joined = λ x p q. q;
    }

-- ---- 3. multiples of 8

pub eighth_sum : (s h : ℕ) → s % 8 ≡ 0 → h % 8 ≡ 0 → (s + h) % 8 ≡ 0
eighth_sum s h p q = omega arith

pub eighth_difference : (s h : ℕ) → (s + h) % 8 ≡ 0 → h % 8 ≡ 0 → s % 8 ≡ 0
eighth_difference s h p q = omega arith

-- ---- 4. edges

pub edge_eighth : (x : ℕ) → up_to_8 x % 8 ≡ 0
edge_eighth x = mul-mod_left ((x + 7) / 8) 8

pub edge_within : (x total : ℕ) → total % 8 ≡ 0 → x ≤ total → up_to_8 x ≤ total
edge_within x total h l = omega arith

pub edge_above : (x : ℕ) → x ≤ up_to_8 x
edge_above x = omega arith
