-- The type, the length and the body of a block of any type are the type, the length and the body in its bytes.
use Rattle.std.proofs.Common.{◌≡◌, ◌≤◌, ℕ, ◌+◌, ◌-◌, [], ◌∷◌, ◌++◌, ◌==◌, List, length, drop, refl, sym, ap, ◌∙◌, arith, true, false, length-drop}
use Rattle.std.proofs.Common.{drop-drop, append-nil, slice_index, eqb-true, leb-true, take-append-drop}
use Rattle.fv_base.proofs.Laws.{common_steps, concat, drop_all, drop_more, IsBytes, field, le_at, le_bytes, field_is}
use Rattle.fv_hob.specs.Words.{hob_type, has_shape, kind_by, hob_len, hob_fields}

-- a type that `kind_by` does not name
record Unknown (n : ℕ) : Type 0 where
  pub a : (n == 0x0001) ≡ false
  pub b : (n == 0x0002) ≡ false
  pub c : (n == 0x0003) ≡ false
  pub d : (n == 0x0004) ≡ false
  pub e : (n == 0x0005) ≡ false
  pub f : (n == 0x0006) ≡ false
  pub g : (n == 0x0007) ≡ false
  pub h : (n == 0x0009) ≡ false
  pub i : (n == 0x000b) ≡ false
  pub j : (n == 0xfffe) ≡ false
  pub k : (n == 0xffff) ≡ false

on : (P : ℕ → Type 0) (k n : ℕ) → P k → ((n == k) ≡ false → P n) → P n
on P k n here other = grind (arith, common_steps, eqb-true)

-- a property of each type that `kind_by` names, and of the types that it does not name, is a property of every type
rows : (P : ℕ → Type 0) → P 0x0001 → P 0x0002 → P 0x0003 → P 0x0004 → P 0x0005 → P 0x0006 → P 0x0007 → P 0x0009 → P 0x000b → P 0xfffe
    → P 0xffff
    → ((n : ℕ) → Unknown n → P n) → (n : ℕ) → P n
rows P p1 p2 p3 p4 p5 p6 p7 p9 pb pe pf other n = grind (arith, common_steps, on)

-- ---- the type

pub code_by : (b : List ℕ) (n : ℕ) → hob_type (kind_by n b) ≡ n
code_by b = rows (λ n. hob_type (kind_by n b) ≡ n) refl refl refl refl refl refl refl refl refl refl refl
    (λ n u. rw (u.a, u.b, u.c, u.d, u.e, u.f, u.g, u.h, u.i, u.j, u.k) refl)

-- ---- the length

abbrev HasLen : List ℕ → ℕ → Type 0
HasLen b n = has_shape n (length b) ≡ true → hob_len (kind_by n b) ≡ length b

exact : (n k : ℕ) → (n == k) ≡ true → k ≡ n
exact n k e = sym (eqb-true n k e)

rest_of : (k : ℕ) (b : List ℕ) → k ≤ length b → k + length (drop k b) ≡ length b
rest_of k b h = omega (arith, length-drop k b, h)

past : (k n : ℕ) → k ≤ n → k + (n - k) ≡ n
past k n h = omega arith

pub len_by : (b : List ℕ) → 8 ≤ length b → (n : ℕ) → has_shape n (length b) ≡ true → hob_len (kind_by n b) ≡ length b
len_by b least = rows (HasLen b)
    (exact (length b) 56) (λ s. rest_of 48 b (leb-true 48 (length b) s)) (exact (length b) 48)
    (λ s. rest_of 24 b (leb-true 24 (length b) s)) (exact (length b) 24) (exact (length b) 16) (exact (length b) 8) (exact (length b) 56)
    (exact (length b) 24) (λ s. past 8 (length b) least) (exact (length b) 8)
    (λ n u s. rw (u.a, u.b, u.c, u.d, u.e, u.f, u.g, u.h, u.i, u.j, u.k) (rest_of 8 b least))

-- ---- the body

-- a field followed by the bytes after it are the bytes from the field on
pub then : (i n : ℕ) (b x : List ℕ) → x ≡ drop (i + n) b → field i n b ++ x ≡ drop i b
then i n b x e = ap (λ (l : List ℕ). field i n b ++ l) (e ∙ sym (drop-drop n i b)) ∙ take-append-drop n (drop i b)

-- the bytes of the number in a field, followed by the bytes after it, are the bytes from the field on
pub number : (i n : ℕ) (b x : List ℕ) → IsBytes b → i + n ≤ length b → x ≡ drop (i + n) b → le_bytes n (le_at i n b) ++ x ≡ drop i b
number i n b x bytes within e = ap (λ (l : List ℕ). l ++ x) (field_is i n b bytes within) ∙ then i n b x e

none_behind : (i : ℕ) (b : List ℕ) → length b ≡ i → [] ≡ drop i b
none_behind i b e = sym (drop_all i b (omega (arith, e)))

abbrev HasBody : List ℕ → ℕ → Type 0
HasBody b n = has_shape n (length b) ≡ true → (n == 0xfffe) ≡ false → concat (hob_fields (kind_by n b)) ≡ drop 8 b

handoff_body : (b : List ℕ) → IsBytes b → length b ≡ 56 → concat (hob_fields (kind_by 0x0001 b)) ≡ drop 8 b
handoff_body b bytes e =
    number 8 4 b _ bytes (omega (arith, e)) (number 12 4 b _ bytes (omega (arith, e))
    (number 16 8 b _ bytes (omega (arith, e)) (number 24 8 b _ bytes (omega (arith, e)) (number 32 8 b _ bytes (omega (arith, e))
    (number 40 8 b _ bytes (omega (arith, e)) (number 48 8 b [] bytes (omega (arith, e)) (none_behind 56 b e)))))))

allocation_body : (b : List ℕ) → IsBytes b → 48 ≤ length b → concat (hob_fields (kind_by 0x0002 b)) ≡ drop 8 b
allocation_body b bytes e =
    then 8 16 b _ (number 24 8 b _ bytes (omega (arith, e))
    (number 32 8 b _ bytes (omega (arith, e)) (number 40 4 b _ bytes (omega (arith, e)) (then 44 4 b _ (append-nil (drop 48 b))))))

resource_body : (b : List ℕ) → IsBytes b → length b ≡ 48 → concat (hob_fields (kind_by 0x0003 b)) ≡ drop 8 b
resource_body b bytes e =
    then 8 16 b _ (number 24 4 b _ bytes (omega (arith, e)) (number 28 4 b _ bytes (omega (arith, e))
    (number 32 8 b _ bytes (omega (arith, e)) (number 40 8 b [] bytes (omega (arith, e)) (none_behind 48 b e)))))

span_body : (b : List ℕ) → IsBytes b → length b ≡ 24 → concat (le_bytes 8 (le_at 8 8 b) ∷ le_bytes 8 (le_at 16 8 b) ∷ []) ≡ drop 8 b
span_body b bytes e = number 8 8 b _ bytes (omega (arith, e)) (number 16 8 b [] bytes (omega (arith, e)) (none_behind 24 b e))

cpu_body : (b : List ℕ) → length b ≡ 16 → concat (hob_fields (kind_by 0x0006 b)) ≡ drop 8 b
cpu_body b e =
    ap (λ (l : List ℕ). slice_index b 8 ∷ slice_index b 9 ∷ l) (then 10 6 b [] (none_behind 16 b e))
    ∙ ap (λ (l : List ℕ). slice_index b 8 ∷ l) (sym (drop_more b 9 0 (omega (arith, e)))) ∙ sym (drop_more b 8 0 (omega (arith, e)))

volume2_body : (b : List ℕ) → IsBytes b → length b ≡ 56 → concat (hob_fields (kind_by 0x0009 b)) ≡ drop 8 b
volume2_body b bytes e =
    number 8 8 b _ bytes (omega (arith, e))
    (number 16 8 b _ bytes (omega (arith, e)) (then 24 16 b _ (then 40 16 b [] (none_behind 56 b e))))

-- the body of a block that is not unused is written as it was read
pub body_by : (b : List ℕ) → IsBytes b → (n : ℕ) → has_shape n (length b) ≡ true → (n == 0xfffe) ≡ false
    → concat (hob_fields (kind_by n b)) ≡ drop 8 b
body_by b bytes = rows (HasBody b)
    (λ s t. handoff_body b bytes (eqb-true (length b) 56 s)) (λ s t. allocation_body b bytes (leb-true 48 (length b) s))
    (λ s t. resource_body b bytes (eqb-true (length b) 48 s)) (λ s t. then 8 16 b _ (append-nil (drop 24 b)))
    (λ s t. span_body b bytes (eqb-true (length b) 24 s)) (λ s t. cpu_body b (eqb-true (length b) 16 s))
    (λ s t. none_behind 8 b (eqb-true (length b) 8 s)) (λ s t. volume2_body b bytes (eqb-true (length b) 56 s))
    (λ s t. span_body b bytes (eqb-true (length b) 24 s)) (λ s t. cc) (λ s t. none_behind 8 b (eqb-true (length b) 8 s))
    (λ n u s t. rw (u.a, u.b, u.c, u.d, u.e, u.f, u.g, u.h, u.i, u.j, u.k) (append-nil (drop 8 b)))
