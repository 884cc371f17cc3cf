-- Hexadecimal text is decoded in parts: each two digits spell a byte, and a text with another character spells nothing.
use Rattle.std.proofs.Common.{◌≡◌, ◌<◌, ◌≤◌, ◌⊎◌, ℕ, ◌+◌, ◌*◌, ◌%◌, [], ◌∷◌, ◌++◌, ⊎_elim, zero, suc, List, length, take, drop, map, Option, refl}
use Rattle.std.proofs.Common.{sym, ap, ◌∙◌, subst, append_assoc, append-nil, arith, length-append, drop-drop, max, Some, drop-set-lt, get_or-drop}
use Rattle.std.proofs.Common.{get_or-take, length-take-le, take_all}
use Rattle.fv_base.proofs.Laws.{common_steps, All, unwrap_or, get_or, set, take-append_seam, map-append, take_more, take_more_set, All-head, All-tail}
use Rattle.std.specs.Simd.{first_chunks}
use Rattle.std.proofs.Math.Seq.{drop-length}
use Rattle.std.proofs.lemmas.List.Elements.{All-cons, All-nil, All-pop, All-push}
use Rattle.hex.specs.Hex.{hex_digit_value}
use Rattle.fv_text.specs.inner.HexDecoding.{IsNibble, SpellsNothing, joined_pairs, value_or_16}
use Rattle.fv_text.specs.Words.{DigitsSpell}

pub reads_joined : (a b x y : List ℕ) → DigitsSpell a x → DigitsSpell b y → DigitsSpell (a ++ b) (x ++ y)
reads_joined [] b x y p q = subst (λ (l : List ℕ). DigitsSpell b (l ++ y)) (sym p) q
reads_joined (h ∷ []) b x y p q = absurd p
reads_joined (h ∷ l ∷ a) b x y (high, low, rest, is_high, is_low, is, more) q =
    (high, low, rest ++ y, is_high, is_low, ap (λ (k : List ℕ). k ++ y) is, reads_joined a b rest y more q)

-- the digits are twice as many as the bytes that they spell
pub reads_count : (digits bytes : List ℕ) → DigitsSpell digits bytes → length digits ≡ 2 * length bytes
reads_count [] bytes p = let none = ap length p in omega (arith, none)
reads_count (h ∷ []) bytes p = absurd p
reads_count (h ∷ l ∷ digits) bytes (high, low, rest, is_high, is_low, is, more) =
    let count = reads_count digits rest more in
    let long = ap length is in
    omega (arith, count, long)

-- if the digits of joined parts spell bytes, and the first part does, the second part does too
reads_rest : (a b x y : List ℕ) → DigitsSpell a x → DigitsSpell (a ++ b) y → (z : List ℕ) × DigitsSpell b z
reads_rest [] b x y p q = (y, q)
reads_rest (h ∷ []) b x y p q = absurd p
reads_rest (h ∷ l ∷ a) b x y p q = reads_rest a b p.2 q.2 p.6 q.6

-- digits that cannot begin a text of bytes cannot do so with more digits after them
pub spoilt_more : (a b : List ℕ) → SpellsNothing a → SpellsNothing (a ++ b)
spoilt_more a b spoilt = grind (arith, common_steps, append_assoc)

-- digits that cannot begin a text of bytes cannot do so with digits before them that spell bytes
pub spoilt_behind : (a b x : List ℕ) → DigitsSpell a x → SpellsNothing b → SpellsNothing (a ++ b)
spoilt_behind a b x reads spoilt = grind (arith, common_steps, append_assoc, reads_rest)

-- a character with a value below 16 is a digit
value_known : (d : ℕ) → value_or_16 d < 16 → hex_digit_value d ≡ Some (value_or_16 d)
value_known d small = grind (arith, common_steps)

-- the value of a digit is below 16
value_small : (d v : ℕ) → hex_digit_value d ≡ Some v → v < 16
value_small d v is = grind arith

nibble : (d v : ℕ) → hex_digit_value d ≡ Some v → value_or_16 d < 16
nibble d v is = subst (λ (o : Option ℕ). unwrap_or o 16 < 16) (sym is) (value_small d v is)

-- the characters at the start of a text that spells bytes are all digits
all_digits : (a b bytes : List ℕ) → DigitsSpell (a ++ b) bytes → All IsNibble (map value_or_16 a)
all_digits [] b bytes all = All-nil IsNibble
all_digits (h ∷ []) [] bytes all = absurd all
all_digits (h ∷ []) (l ∷ b) bytes (high, low, rest, is_high, is_low, is, more) =
    All-cons IsNibble (value_or_16 h) [] (nibble h high is_high) (All-nil IsNibble)
all_digits (h ∷ l ∷ a) b bytes (high, low, rest, is_high, is_low, is, more) =
    All-cons IsNibble (value_or_16 h) (value_or_16 l ∷ map value_or_16 a) (nibble h high is_high)
    (All-cons IsNibble (value_or_16 l) (map value_or_16 a) (nibble l low is_low) (all_digits a b rest more))

-- the greatest value so far says whether all characters so far are digits
abbrev pub Judges : ℕ → List ℕ → Type 0
Judges most digits = (most < 16 → All IsNibble (map value_or_16 digits)) × (16 ≤ most → SpellsNothing digits)

-- one more character is judged by the greater of its value and the greatest value so far
pub judges_next : (digits : List ℕ) (i d most value now : ℕ) → i < length digits → value ≡ value_or_16 (get_or digits i d)
    → now ≡ max value most → Judges most (take i digits) → Judges now (take (i + 1) digits)
judges_next digits i d most value now lt value_is now_is (right, wrong) =
    subst (Judges now) (sym (take_more digits i d lt)) (
      λ small.
          let (value_lt, most_lt) : (value < 16) × (most < 16) = grind arith in
          subst (All IsNibble) (sym (map-append value_or_16 front (c ∷ [])))
          (All-push IsNibble (map value_or_16 front) (value_or_16 c) (right most_lt) (subst IsNibble value_is value_lt)),
      λ large. λ behind bytes all.
          let either : (16 ≤ most) ⊎ (16 ≤ value) = grind arith in
          ⊎_elim
          (λ was. spoilt_more front (c ∷ []) (wrong was) behind bytes all)
          (λ is.
          let nibbles = all_digits (front ++ c ∷ []) behind bytes all in
          let last : value_or_16 c < 16 = (All-pop IsNibble (map value_or_16 (front ++ c ∷ [])) (map value_or_16 front)
          (Some (value_or_16 c)) (map-append value_or_16 front (c ∷ [])) nibbles).1 in
          absurd (omega (arith, is, value_is, last)))
          either,
    ) where
      front : List ℕ
      front = take i digits

      c : ℕ
      c = get_or digits i d

-- one more digit is replaced by its value
pub value_put : (old digits : List ℕ) (i value d : ℕ) → i < length old → length digits ≡ length old
    → take i digits ≡ map value_or_16 (take i old) → drop i digits ≡ drop i old → value ≡ value_or_16 (get_or digits i d)
    → (take (i + 1) (set digits i value) ≡ map value_or_16 (take (i + 1) old)) × (drop (i + 1) (set digits i value) ≡ drop (i + 1) old)
    × (get_or digits i d ≡ get_or old i d)
value_put old digits i value d lt long front rest value_is =
    let lt_now : i < length digits = omega (arith, lt, long) in
    let none : i + 0 ≡ i = omega arith in
    let at : get_or digits i d ≡ get_or old i d =
    ap (λ (n : ℕ). get_or digits n d) (sym none) ∙ sym (get_or-drop i digits 0 d) ∙ ap (λ (l : List ℕ). get_or l 0 d) rest
    ∙ get_or-drop i old 0 d ∙ ap (λ (n : ℕ). get_or old n d) none in (
      take_more_set digits i value lt_now
          ∙ ap (λ (l : List ℕ). l ++ value ∷ []) front
          ∙ ap (λ (v : ℕ). map value_or_16 (take i old) ++ v ∷ []) (value_is ∙ ap value_or_16 at)
          ∙ sym (ap (map value_or_16) (take_more old i d lt) ∙ map-append value_or_16 (take i old) (get_or old i d ∷ [])),
      drop-set-lt (i + 1) digits i value (omega arith)
          ∙ sym (drop-drop 1 i digits) ∙ ap (drop 1) rest ∙ drop-drop 1 i old,
      at,
    )

-- the bytes of the values of digits are the bytes that the digits spell
pub joined_spell : (digits : List ℕ) → length digits % 2 ≡ 0 → All IsNibble (map value_or_16 digits)
    → DigitsSpell digits (joined_pairs (map value_or_16 digits))
joined_spell [] even small = refl
joined_spell (h ∷ []) even small = absurd (omega (arith, even))
joined_spell (h ∷ l ∷ digits) even small =
    let rest = All-tail IsNibble (value_or_16 h) (value_or_16 l ∷ map value_or_16 digits) small in (
      value_or_16 h,
      value_or_16 l,
      joined_pairs (map value_or_16 digits),
      value_known h (All-head IsNibble (value_or_16 h) (value_or_16 l ∷ map value_or_16 digits) small),
      value_known l (All-head IsNibble (value_or_16 l) (map value_or_16 digits) rest),
      refl,
      joined_spell digits (omega (arith, even)) (All-tail IsNibble (value_or_16 l) (map value_or_16 digits) rest),
    )

-- the bytes of pairs of values, and of one more pair
joined_more : (values : List ℕ) (h l : ℕ) → length values % 2 ≡ 0
    → joined_pairs (values ++ h ∷ l ∷ []) ≡ joined_pairs values ++ (h * 16 + l) ∷ []
joined_more [] h l even = refl
joined_more (x ∷ []) h l even = absurd (omega (arith, even))
joined_more (x ∷ y ∷ values) h l even = ap (λ (k : List ℕ). (x * 16 + y) ∷ k) (joined_more values h l (omega (arith, even)))

pub joined_next : (values : List ℕ) (i d e : ℕ) → 2 * i + 1 < length values
    → joined_pairs (take (2 * (i + 1)) values)
    ≡ joined_pairs (take (2 * i) values) ++ (get_or values (2 * i) d * 16 + get_or values (2 * i + 1) e) ∷ []
joined_next values i d e lt =
    let h = get_or values (2 * i) d in
    let l = get_or values (2 * i + 1) e in
    let front = take (2 * i) values in
    let count : 2 * (i + 1) ≡ (2 * i + 1) + 1 = omega arith in
    let both : take (2 * (i + 1)) values ≡ front ++ h ∷ l ∷ [] =
    ap (λ (n : ℕ). take n values) count ∙ take_more values (2 * i + 1) e lt
    ∙ ap (λ (k : List ℕ). k ++ l ∷ []) (take_more values (2 * i) d (omega (arith, lt)))
    ∙ append_assoc front (h ∷ []) (l ∷ []) in
    let long : length front ≡ 2 * i = length-take-le (2 * i) values (omega (arith, lt)) in
    ap joined_pairs both ∙ joined_more front h l (omega (arith, long))

-- the pair at an index is two values from twice the index on
pair_at : (k : ℕ) (values : List ℕ) (i : ℕ) (d : List ℕ) → i < k → get_or (first_chunks 2 k values) i d ≡ take 2 (drop (2 * i) values)
pair_at zero values i d lt = absurd (omega (arith, lt))
pair_at (suc k) values zero d lt = refl
pair_at (suc k) values (suc i) d lt =
    let place : 2 * suc i ≡ 2 + 2 * i = omega arith in
    pair_at k (drop 2 values) i d (omega (arith, lt))
    ∙ ap (take 2) (drop-drop (2 * i) 2 values ∙ ap (λ (n : ℕ). drop n values) (sym place))

-- each value of a pair is the value at its index in the list
pub pair_value : (pairs : List (List ℕ)) (k : ℕ) (values : List ℕ) (i j : ℕ) (d : List ℕ) (e : ℕ) → pairs ≡ first_chunks 2 k values
    → i < k → j < 2 → get_or (get_or pairs i d) j e ≡ get_or values (2 * i + j) e
pair_value pairs k values i j d e is lt within =
    ap (λ (l : List (List ℕ)). get_or (get_or l i d) j e) is
    ∙ ap (λ (l : List ℕ). get_or l j e) (pair_at k values i d lt)
    ∙ get_or-take 2 (drop (2 * i) values) j e within
    ∙ get_or-drop (2 * i) values j e

-- a room of the same length as the items, put over the items from the first on, replaces all of them
pub whole_room : (items room : List ℕ) (len : ℕ) → len ≡ length items → length room ≡ length items
    → take len (room ++ drop (length room) items) ≡ room
whole_room items room len len_is long = grind (arith, common_steps, drop-length, append-nil, take_all)

-- the items before the start of the room are unchanged
pub kept_front : (old fill items : List ℕ) (start n : ℕ) → start ≡ length old → start ≤ n → items ≡ take n old ++ fill
    → take start items ≡ old
kept_front old fill items start n is le filled = grind (arith, common_steps, take_all, take-append_seam)

-- one digit after pairs of digits spells nothing
pub odd_reads_nothing : (front waiting x y : List ℕ) → length waiting ≡ 1 → DigitsSpell front x → DigitsSpell (front ++ waiting) y → ⊥
odd_reads_nothing front waiting x y one reads all = grind (arith, common_steps, reads_count, length-append)
