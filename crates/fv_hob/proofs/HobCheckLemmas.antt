-- A block is there exactly if its checks hold, and its length determines it. The steps:
-- 1. A block has the type and the length that its bytes give (`code_is`, `len_is`).
-- 2. If the checks hold, a block is there (`stands`), and if a block is there, they hold (`checks_hold`).
-- 3. Bytes begin with at most one block (`one_block`).
use Rattle.std.proofs.Common.{◌≡◌, ◌≤◌, ◌<◌, ℕ, ◌+◌, ◌++◌, ◌==◌, ◌%◌, ◌||◌, List, length, take, drop, sym, ap, ◌∙◌, subst, arith, Bool, true}
use Rattle.std.proofs.Common.{length-append, not, nat_le, None, eqb-true, eq-eqb, leb-true, le-leb, take-append-drop, length-take-le}
use Rattle.fv_base.proofs.Laws.{common_steps, AllHold, IsBytes, le, le_at, all_hold, and_join, and_split, bytes_take, field-append_front, field-take}
use Rattle.fv_base.proofs.Laws.{same_cut, two_bytes}
use Rattle.fv_base.specs.inner.Verdicts.{first_fault}
use Rattle.fv_hob.specs.Words.{BeginsBlock, hob_checks, is_hob_len, HobForm, IsHob, hob_type, has_shape, hob_in, hob_len}
use Rattle.fv_hob.proofs.BlockKindLemmas.{code_by, len_by}

pub code_is : (h : HobForm) (b : List ℕ) → IsHob h b → hob_type h.kind ≡ le_at 0 2 b
code_is h b is = ap (λ (g : HobForm). hob_type g.kind) is.hob_is ∙ code_by b (le_at 0 2 b)

pub len_is : (h : HobForm) (b : List ℕ) → IsHob h b → hob_len h.kind ≡ length b
len_is h b is = ap (λ (g : HobForm). hob_len g.kind) is.hob_is ∙ len_by b (is.block).least (le_at 0 2 b) (is.block).shaped

pub len_small : (h : HobForm) (b : List ℕ) → IsHob h b → hob_len h.kind < 65536
len_small h b is = subst (λ (n : ℕ). n < 65536) ((is.block).sized ∙ sym (len_is h b is)) (two_bytes 2 b (is.block).bytes)

-- ---- from the checks to the block

holds_first : (first : Bool) (t : Bool) → (not first || t) ≡ true → first ≡ true → t ≡ true
holds_first first t h e = grind (arith, common_steps)

-- the checks of a block, by name
record ChecksOfBlock (first : Bool) (r : List ℕ) : Type 0 where
  some : nat_le 1 (length r) ≡ true
  headed : nat_le 8 (length r) ≡ true
  sized : is_hob_len (le_at 2 2 r) ≡ true
  inside : nat_le (le_at 2 2 r) (length r) ≡ true
  begins : (not first || (le_at 0 2 r == 0x0001)) ≡ true
  shaped : has_shape (le_at 0 2 r) (le_at 2 2 r) ≡ true

checks_of_block : (first : Bool) (r : List ℕ) → AllHold (hob_checks first r) → ChecksOfBlock first r
checks_of_block first r (some, (headed, (sized, (inside, (begins, (shaped, end)))))) = grind (arith, common_steps)

pub stands : (first : Bool) (r : List ℕ) → IsBytes r → first_fault (hob_checks first r) ≡ None → BeginsBlock first (take (le_at 2 2 r) r) r
stands first r bytes none =
    let checks = checks_of_block first r (all_hold (hob_checks first r) none) in
    let n : ℕ = le_at 2 2 r in
    let c : List ℕ = take n r in
    let len = and_split _ _ checks.sized in
    let least : 8 ≤ n = leb-true 8 n len.0 in
    let long : length c ≡ n = length-take-le n r (leb-true n (length r) checks.inside) in
    let code : le_at 0 2 c ≡ le_at 0 2 r = ap le (field-take 0 2 n r (omega (arith, least))) in
    record {
      rest = drop n r;
      joined = sym (take-append-drop n r);
      block = record {
        bytes = bytes_take n r bytes;
        sized = ap le (field-take 2 2 n r (omega (arith, least))) ∙ sym long;
        multiple = ap (λ (m : ℕ). m % 8) long ∙ eqb-true (n % 8) 0 len.1;
        least = subst (λ (m : ℕ). 8 ≤ m) (sym long) least;
        shaped = ap (λ (m : ℕ). has_shape (le_at 0 2 c) m) long ∙ ap (λ (m : ℕ). has_shape m n) code ∙ checks.shaped;
      };
      begins = λ e. code ∙ eqb-true (le_at 0 2 r) 0x0001 (holds_first first (le_at 0 2 r == 0x0001) checks.begins e);
    }

-- ---- from the block to the checks

join_first : (first : Bool) (t : Bool) → (first ≡ true → t ≡ true) → (not first || t) ≡ true
join_first first t h = grind (arith, common_steps)

pub checks_hold : (first : Bool) (h : HobForm) (c x : List ℕ) → IsHob h c → (first ≡ true → hob_type h.kind ≡ 0x0001)
    → AllHold (hob_checks first (c ++ x))
checks_hold first h c x is begins =
    let r : List ℕ = c ++ x in
    let block = is.block in
    let least : 8 ≤ length c = block.least in
    let code : le_at 0 2 r ≡ le_at 0 2 c = ap le (field-append_front 0 2 c x (omega (arith, least))) in
    let len : le_at 2 2 r ≡ length c = ap le (field-append_front 2 2 c x (omega (arith, least))) ∙ block.sized in
    let long : length r ≡ length c + length x = length-append c x in
    let sized : is_hob_len (length c) ≡ true = and_join _ _ (le-leb 8 (length c) least) (eq-eqb (length c % 8) 0 block.multiple) in
    let whole : nat_le (le_at 2 2 r) (length r) ≡ true = le-leb (le_at 2 2 r) (length r) (omega (arith, long, len)) in
    let begun : (not first || (le_at 0 2 r == 0x0001)) ≡ true =
    join_first first (le_at 0 2 r == 0x0001) (λ e. eq-eqb (le_at 0 2 r) 0x0001 (code ∙ sym (code_is h c is) ∙ begins e)) in
    let shaped : has_shape (le_at 0 2 r) (le_at 2 2 r) ≡ true = ap (λ (m : ℕ). has_shape m (le_at 2 2 r)) code
    ∙ ap (λ (m : ℕ). has_shape (le_at 0 2 c) m) len ∙ block.shaped in
    let some : nat_le 1 (length r) ≡ true = le-leb 1 (length r) (omega (arith, long, least)) in
    let headed : nat_le 8 (length r) ≡ true = le-leb 8 (length r) (omega (arith, long, least)) in
    (some, (headed, (ap is_hob_len len ∙ sized, (whole, (begun, (shaped, tt))))))

-- ---- one block

pub record SameBlock (c d x y : List ℕ) (h g : HobForm) : Type 0 where
  pub bytes_are : c ≡ d
  pub behind_is : x ≡ y
  pub block_is : h ≡ g

pub one_block : (h g : HobForm) (c d x y : List ℕ) → IsHob h c → IsHob g d → c ++ x ≡ d ++ y → SameBlock c d x y h g
one_block h g c d x y is js e =
    let len : length c ≡ length d =
    sym (is.block).sized ∙ sym (ap le (field-append_front 2 2 c x (omega (arith, (is.block).least)))) ∙ ap (le_at 2 2) e
    ∙ ap le (field-append_front 2 2 d y (omega (arith, (js.block).least))) ∙ (js.block).sized in
    let parts = same_cut c d x y len e in
    record { bytes_are = parts.0; behind_is = parts.1; block_is = is.hob_is ∙ ap hob_in parts.0 ∙ sym js.hob_is }
