-- Fields are cut from bytes, and bytes and the number that they spell determine each other. The steps:
-- 1. Both parts of a list of bytes (`IsBytes`) are lists of bytes (`bytes_take`, `bytes_drop`), and so are two joined
--    lists of bytes (`bytes_append`).
-- 2. Bytes and the number that they spell determine each other (`le_bytes-le`, `field_is`, `le-le_bytes`).
-- 3. A field of a part is a field of the whole (`field-take`, `field-append_front`).
-- 4. The bytes up to a place are the bytes up to an earlier place, and at least one more (`take_past`, `some_between`).
--    Two places are equal if neither of them is less (`same_place`).
use Rattle.std.proofs.Common.{◌≡◌, ◌≤◌, ◌<◌, ◌+◌, ◌-◌, ◌*◌, ◌/◌, ◌%◌, ◌^◌, ℕ, [], ◌∷◌, ◌++◌, zero, suc, List, length, take, drop, refl, sym, ap}
use Rattle.std.proofs.Common.{◌∙◌, subst, arith, length-drop, slice_index, length-take-le}
use Rattle.std.proofs.lemmas.Grind.{common_steps}
use Rattle.std.proofs.Math.Nat.{pow-suc}
use Rattle.std.proofs.Math.Seq.{take-add}
use Rattle.std.proofs.lemmas.Bool.{cases_lt}
use Rattle.std.proofs.lemmas.List.{drop-take, take-append-le, drop-append-le}
use Rattle.fv_base.specs.Words.{IsBytes, le, le_bytes, field}

pub take-take_le : (n m : ℕ) (xs : List ℕ) → n ≤ m → take n (take m xs) ≡ take n xs
take-take_le zero m xs h = refl
take-take_le (suc n) zero xs h = absurd (omega arith)
take-take_le (suc n) (suc m) [] h = refl
take-take_le (suc n) (suc m) (x ∷ xs) h = ap (λ (ys : List ℕ). x ∷ ys) (take-take_le n m xs (omega arith))

-- a field that ends within the first m bytes is the same field of these m bytes
pub field-take : (i n m : ℕ) (b : List ℕ) → i + n ≤ m → field i n (take m b) ≡ field i n b
field-take i n m b h =
    let split : m ≡ i + (m - i) = omega arith in
    let cut : drop i (take m b) ≡ take (m - i) (drop i b) =
    subst (λ (k : ℕ). drop i (take k b) ≡ take (m - i) (drop i b)) (sym split) (drop-take i (m - i) b) in
    ap (take n) cut ∙ take-take_le n (m - i) (drop i b) (omega arith)

-- a list of bytes without its first byte is a list of bytes
pub bytes_behind : (b : ℕ) (bs : List ℕ) → IsBytes (b ∷ bs) → IsBytes bs
bytes_behind b bs h = λ i. h (suc i)

-- the bytes that are written for the number that bytes spell are these bytes
pub le_bytes-le : (bs : List ℕ) → IsBytes bs → le_bytes (length bs) (le bs) ≡ bs
le_bytes-le [] h = refl
le_bytes-le (b ∷ bs) h =
    let small : b < 256 = h 0 in
    rw (low b (le bs) small, high b (le bs) small) (ap (λ (ys : List ℕ). b ∷ ys) (le_bytes-le bs (bytes_behind b bs h)))
  where
    low : (b n : ℕ) → b < 256 → (b + 256 * n) % 256 ≡ b
    low b n small = omega arith

    high : (b n : ℕ) → b < 256 → (b + 256 * n) / 256 ≡ n
    high b n small = omega arith

-- past the end of a list the byte is 0
pub none_at : (i : ℕ) → slice_index [] i < 256
none_at i = omega arith

-- the first n bytes of a list of bytes are a list of bytes, and so are the bytes after them
pub bytes_take : (n : ℕ) (b : List ℕ) → IsBytes b → IsBytes (take n b)
bytes_take zero b h i = none_at i
bytes_take (suc n) [] h i = none_at i
bytes_take (suc n) (x ∷ xs) h zero = h zero
bytes_take (suc n) (x ∷ xs) h (suc i) = bytes_take n xs (bytes_behind x xs h) i

pub bytes_drop : (n : ℕ) (b : List ℕ) → IsBytes b → IsBytes (drop n b)
bytes_drop zero b h = h
bytes_drop (suc n) [] h = h
bytes_drop (suc n) (x ∷ xs) h = bytes_drop n xs (bytes_behind x xs h)

-- the bytes that are written for the number that a field spells are the field
pub field_is : (at n : ℕ) (b : List ℕ) → IsBytes b → at + n ≤ length b → le_bytes n (le (field at n b)) ≡ field at n b
field_is at n b h within =
    let long : length (field at n b) ≡ n = length-take-le n (drop at b) (simp length-drop (omega arith)) in
    subst (λ (k : ℕ). le_bytes k (le (field at n b)) ≡ field at n b) long
    (le_bytes-le (field at n b) (bytes_take n (drop at b) (bytes_drop at b h)))

-- a byte followed by a list of bytes is a list of bytes
pub bytes_cons : (x : ℕ) (b : List ℕ) → x < 256 → IsBytes b → IsBytes (x ∷ b)
bytes_cons x b h k i = grind (arith, common_steps)

-- two joined lists of bytes are a list of bytes
pub bytes_append : (a b : List ℕ) → IsBytes a → IsBytes b → IsBytes (a ++ b)
bytes_append [] b h k = k
bytes_append (x ∷ a) b h k = bytes_cons x (a ++ b) (h 0) (bytes_append a b (bytes_behind x a h) k)

low_byte : (n : ℕ) → n % 256 < 256
low_byte n = omega arith

pub bytes_le_bytes : (k n : ℕ) → IsBytes (le_bytes k n)
bytes_le_bytes zero n = none_at
bytes_le_bytes (suc k) n = bytes_cons (n % 256) (le_bytes k (n / 256)) (low_byte n) (bytes_le_bytes k (n / 256))

-- a number below 256 ^ k is the number that its k bytes spell
pub le-le_bytes : (k n : ℕ) → n < 256 ^ k → le (le_bytes k n) ≡ n
le-le_bytes zero n small = nothing n small where
  nothing : (n : ℕ) → n < 1 → 0 ≡ n
  nothing n small = omega arith
le-le_bytes (suc k) n small =
    ap (λ (m : ℕ). n % 256 + 256 * m) (le-le_bytes k (n / 256) (higher (256 ^ k) (256 ^ suc k) n (pow-suc 256 k) small)) ∙ whole n
  where
    higher : (p q n : ℕ) → q ≡ p * 256 → n < q → n / 256 < p
    higher p q n is small = omega arith

    whole : (n : ℕ) → n % 256 + 256 * (n / 256) ≡ n
    whole n = omega arith

-- a field within the first part of a join is a field of this part
pub field-append_front : (i n : ℕ) (p q : List ℕ) → i + n ≤ length p → field i n (p ++ q) ≡ field i n p
field-append_front i n p q within = grind (arith, common_steps, drop-append-le, take-append-le, length-drop)

-- equal lists that are cut at equal lengths have equal parts
pub same_cut : (a b x y : List ℕ) → length a ≡ length b → a ++ x ≡ b ++ y → (a ≡ b) × (x ≡ y)
same_cut [] [] x y l e = (refl, e)
same_cut [] (c ∷ b) x y l e = absurd (omega arith)
same_cut (c ∷ a) [] x y l e = absurd (omega arith)
same_cut (c ∷ a) (d ∷ b) x y l e =
    let t : a ++ x ≡ b ++ y = cc in
    let r = same_cut a b x y (omega arith) t in
    let p : a ≡ b = r.0 in
    let q : x ≡ y = r.1 in
    let h : c ≡ d = cc in
    (cc, q)

-- two bytes spell a number below 65536
pub two_bytes : (at : ℕ) (b : List ℕ) → IsBytes b → le (field at 2 b) < 65536
two_bytes at b small = below (field at 2 b) (drop at b) refl (bytes_drop at b small) where
  low : (x y : ℕ) → x < 256 → y < 256 → x + 256 * (y + 256 * 0) < 65536
  low x y h k = omega arith

  one : (x : ℕ) → x < 256 → x + 256 * 0 < 65536
  one x h = omega arith

  below : (f xs : List ℕ) → f ≡ take 2 xs → IsBytes xs → le f < 65536
  below f [] is small = rw is (omega arith)
  below f (x ∷ []) is small = rw is (one x (small 0))
  below f (x ∷ y ∷ xs) is small = rw is (low x y (small 0) (small 1))

-- ---- two places

-- two places are equal if neither of them is less
pub same_place : (m n : ℕ) → (m < n → ⊥) → (n < m → ⊥) → m ≡ n
same_place m n low high = grind (arith, common_steps, cases_lt)

-- the bytes up to the later place are the bytes up to the earlier place, and then the bytes between the two places
pub take_past : (b : List ℕ) (m n : ℕ) → m < n → take n b ≡ take m b ++ take (n - m) (drop m b)
take_past b m n l = ap (λ (k : ℕ). take k b) (split m n l) ∙ take-add m (n - m) b
  where
    split : (m n : ℕ) → m < n → n ≡ m + (n - m)
    split m n l = omega arith

-- there is at least one byte between two places, if the later one is within the bytes
pub some_between : (b : List ℕ) (m n : ℕ) → m < n → n < length b → 0 < length (take (n - m) (drop m b))
some_between b m n l within = omega (arith, length-take-le (n - m) (drop m b) (omega (arith, length-drop m b, l, within)), l)
