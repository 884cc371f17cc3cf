-- The bytes that a walk writes show each span at its offset and erased bytes elsewhere, and no other bytes do. The
-- steps:
-- 1. The bytes that the walk writes show the spans (`shows_after`, `shows_walk`), and have the full length
--    (`walk_length`).
-- 2. Two lists of bytes that show the same spans are equal (`shows_one`). So bytes that show the spans are the bytes
--    that the walk writes (`one_image`).
use Rattle.std.proofs.Common.{◌≡◌, ℕ, ◌+◌, ◌-◌, ◌<◌, ◌≤◌, [], ◌∷◌, ◌++◌, inl, inr, List, length, take, drop, get_or, replicate, refl, sym, ◌∙◌, ap}
use Rattle.std.proofs.Common.{arith, append_assoc, append-nil, length-append, take_at, drop_at, drop-drop, ⊎_elim}
use Rattle.fv_base.proofs.Laws.{common_steps, get_or-take, get_or-drop, ext_get_or, AllByRecursion, cases_lt, length-replicate}
use Rattle.std.proofs.lemmas.Bool.{cases_eq}
use Rattle.std.proofs.lemmas.List.{get_or_append_left, get_or-replicate}
use Rattle.fv_canon.specs.Words.{PlacedBytes, IsIn, ContainsSpan, ShowsPlaced, painted, InOrder}

-- a byte at or after the offset `from` is a byte of the list without its first `from` bytes
pub rest_at : (b : List ℕ) (from k : ℕ) → from ≤ k → get_or (drop from b) (k - from) 0 ≡ get_or b k 0
rest_at b from k low = grind (arith, common_steps, get_or-drop)

-- if the bytes from e on begin with n erased bytes, each byte of these is erased
erased_at : (b more : List ℕ) (e n k erased : ℕ) → drop e b ≡ replicate n erased ++ more → e ≤ k → k < e + n → get_or b k 0 ≡ erased
erased_at b more e n k erased is low high =
    sym (rest_at b e k low) ∙ ap (λ l. get_or l (k - e) 0) is ∙ get_or_append_left (replicate n erased) more 0 (k - e) (omega (arith, length-replicate n erased))
    ∙ get_or-replicate n (k - e) erased 0 (omega arith)

-- if the bytes from e on are `front` and then `back`, the bytes from the end of `front` on are `back`
dropped : (b front back : List ℕ) (e at : ℕ) → drop e b ≡ front ++ back → e + length front ≡ at → drop at b ≡ back
dropped b front back e at is long =
    rw (← long) (sym (drop-drop (length front) e b) ∙ ap (drop (length front)) is ∙ drop_at front back (length front) refl)

-- the walk writes all bytes from e up to the total length
walk_length : (erased total e : ℕ) (ps : List PlacedBytes) → InOrder total e ps → e + length (painted erased total e ps) ≡ total
walk_length erased total e [] o = let g = length-replicate (total - e) erased in omega arith
walk_length erased total e (p ∷ ps) o =
    grind (arith, common_steps, walk_length erased total (p.at + length p.bytes) ps o.1, length-replicate, length-append) steps 400000

-- to prove that two numbers are equal, it may be assumed that they differ
pub unless_apart : (a b : ℕ) → ((a ≡ b → ⊥) → a ≡ b) → a ≡ b
unless_apart a b same = ⊎_elim (λ e. e) same (cases_eq a b)

-- ---- from the walk to the offsets

-- if b has `total` bytes, and the walk writes the bytes of b from e on, b shows the spans after e, and erased bytes
-- elsewhere after e
shows_after : (erased total e : ℕ) (ps : List PlacedBytes) (b : List ℕ) → length b ≡ total → drop e b ≡ painted erased total e ps
    → InOrder total e ps → AllByRecursion (ContainsSpan b) ps
    × ((k : ℕ) → e ≤ k → k < total → AllByRecursion (λ p. IsIn k p → ⊥) ps → get_or b k 0 ≡ erased)
shows_after erased total e [] b long is o = (tt, λ k low high none. erased_at b [] e (total - e) k erased (is ∙ sym (append-nil (replicate (total - e) erased))) low (omega (arith, low, high)))
shows_after erased total e (p ∷ ps) b long is o =
    let behind = painted erased total (p.at + length p.bytes) ps in
    let here : drop p.at b ≡ p.bytes ++ behind = dropped b (replicate (p.at - e) erased) (p.bytes ++ behind) e p.at
    (is ∙ append_assoc (replicate (p.at - e) erased) p.bytes behind) (omega (arith, length-replicate (p.at - e) erased, o.0)) in
    let later = shows_after erased total (p.at + length p.bytes) ps b long (dropped b p.bytes behind p.at (p.at + length p.bytes) here refl) o.1 in
    let within : p.at + length p.bytes ≤ length b = omega (arith, walk_length erased total (p.at + length p.bytes) ps o.1, long) in (
      ((within, ap (take (length p.bytes)) here ∙ take_at p.bytes behind (length p.bytes) refl), later.0),
      λ k low high none. elim (cases_lt k p.at) [
        | inl before ↦ erased_at b (p.bytes ++ behind) e (p.at - e) k erased (is ∙ append_assoc (replicate (p.at - e) erased) p.bytes behind) low (omega (arith, low, before))
        | inr at ↦ elim (cases_lt k (p.at + length p.bytes)) [
          | inl inside ↦ absurd (none.0 (at, inside))
          | inr past ↦ later.1 k past high none.1
        ]
      ],
    )

-- so the bytes that the walk writes from the offset 0 on show the spans
pub shows_walk : (erased total : ℕ) (ps : List PlacedBytes) → InOrder total 0 ps → ShowsPlaced total erased ps (painted erased total 0 ps)
shows_walk erased total ps o =
    let long : length (painted erased total 0 ps) ≡ total = omega (arith, walk_length erased total 0 ps o) in
    let shown = shows_after erased total 0 ps (painted erased total 0 ps) long refl o in
    record { length_is = long; contained = shown.0; rest = λ k. shown.1 k (omega arith) }

-- ---- only one list of bytes shows the spans

-- a byte at an offset within a span is the byte of the span
byte_in : (b : List ℕ) (p : PlacedBytes) (k : ℕ) → ContainsSpan b p → p.at ≤ k → k < p.at + length p.bytes
    → get_or b k 0 ≡ get_or p.bytes (k - p.at) 0
byte_in b p k stands low high = grind (arith, common_steps, get_or-drop, get_or-take) steps 400000

-- at an offset where two lists that contain the spans differ, there is no span
none_in : (ps : List PlacedBytes) (b c : List ℕ) (k : ℕ) → AllByRecursion (ContainsSpan b) ps → AllByRecursion (ContainsSpan c) ps
    → (get_or b k 0 ≡ get_or c k 0 → ⊥) → AllByRecursion (λ p. IsIn k p → ⊥) ps
none_in [] b c k sb sc differ = tt
none_in (p ∷ ps) b c k sb sc differ =
    (λ i. differ (byte_in b p k sb.0 i.0 i.1 ∙ sym (byte_in c p k sc.0 i.0 i.1)), none_in ps b c k sb.1 sc.1 differ)

-- two lists of bytes that show the same spans are equal, because they do not differ in a span or outside the spans
pub shows_one : (total erased : ℕ) (ps : List PlacedBytes) (b c : List ℕ) → ShowsPlaced total erased ps b → ShowsPlaced total erased ps c
    → b ≡ c
shows_one total erased ps b c p q =
    ext_get_or 0 b c (p.length_is ∙ sym q.length_is) (λ k l. unless_apart (get_or b k 0) (get_or c k 0) (λ differ.
    let within : k < total = omega (arith, l, p.length_is) in
    let none = none_in ps b c k p.contained q.contained differ in p.rest k within none ∙ sym (q.rest k within none)))

-- so only the bytes that the walk writes show the spans
pub one_image : (erased total : ℕ) (ps : List PlacedBytes) (b : List ℕ) → InOrder total 0 ps → ShowsPlaced total erased ps b
    → b ≡ painted erased total 0 ps
one_image erased total ps b o shows = shows_one total erased ps b (painted erased total 0 ps) shows (shows_walk erased total ps o)
