-- Text is put into a room without its white space, character by character or in windows of 16 bytes.
use Rattle.std.proofs.Common.{◌≡◌, ◌<◌, ◌≤◌, ℕ, ◌+◌, ◌-◌, ◌*◌, [], ◌∷◌, ◌++◌, if◌then◌else◌, List, length, take, drop, Bool, true, false, refl, sym}
use Rattle.std.proofs.Common.{ap, ◌∙◌, append_assoc, append-nil, arith, take-append-drop}
use Rattle.fv_base.proofs.Laws.{common_steps, All, get_or, set, take-add, take_more, take_more_set, All-head, All-tail}
use Rattle.std.proofs.lemmas.List.{take-set}
use Rattle.fv_text.specs.Words.{is_space, squeezed}

pub squeezed_more : (a b : List ℕ) → squeezed (a ++ b) ≡ squeezed a ++ squeezed b
squeezed_more [] b = refl
squeezed_more (c ∷ a) b = go (is_space c) (squeezed_more a b) where
  go : (s : Bool) → squeezed (a ++ b) ≡ squeezed a ++ squeezed b
      → (if s then squeezed (a ++ b) else (c ∷ squeezed (a ++ b))) ≡ (if s then squeezed a else (c ∷ squeezed a)) ++ squeezed b
  go true e = e
  go false e = ap (λ (l : List ℕ). c ∷ l) e

-- one more character is kept, or it is white space
squeezed_next : (text : List ℕ) (at d : ℕ) → at < length text
    → squeezed (take (at + 1) text) ≡ squeezed (take at text) ++ (if is_space (get_or text at d) then [] else (get_or text at d ∷ []))
squeezed_next text at d lt = ap squeezed (take_more text at d lt) ∙ squeezed_more (take at text) (get_or text at d ∷ [])

-- a text without its white space is at most as long as the text
pub squeezed_short : (text : List ℕ) → length (squeezed text) ≤ length text
squeezed_short [] = omega arith
squeezed_short (c ∷ text) = go (is_space c) (squeezed_short text) where
  go : (s : Bool) → length (squeezed text) ≤ length text → length (if s then squeezed text else (c ∷ squeezed text)) ≤ length (c ∷ text)
  go true le = omega (arith, le)
  go false le = omega (arith, le)

-- a character greater than a space is not white space
greater_is_kept : (c : ℕ) → 32 < c → is_space c ≡ false
greater_is_kept c lt = grind arith

-- a text of characters that are all greater than a space has no white space
pub dense : (text : List ℕ) (least : ℕ) → 32 < least → All (λ b. least ≤ b) text → squeezed text ≡ text
dense [] least lt all = refl
dense (c ∷ text) least lt all =
    let kept = greater_is_kept c (let le = All-head (λ b. least ≤ b) c text all in omega (arith, lt, le)) in
    ap (λ (s : Bool). if s then squeezed text else (c ∷ squeezed text)) kept
    ∙ ap (λ (l : List ℕ). c ∷ l) (dense text least lt (All-tail (λ b. least ≤ b) c text all))

pub count_small : (s : Bool) (count : ℕ) → count ≡ (if s then 0 else 1) → count ≤ 1
count_small s count is = grind (arith, common_steps)

-- one more character is put after the others, or it is white space
pub put_next : (base room text : List ℕ) (end at d count : ℕ) → at < length text → end < length room
    → take end room ≡ base ++ squeezed (take at text) → count ≡ (if is_space (get_or text at d) then 0 else 1)
    → take (end + count) (set room end (get_or text at d)) ≡ base ++ squeezed (take (at + 1) text)
put_next base room text end at d count lt fits so_far count_is = go (is_space c) count_is (squeezed_next text at d lt) where
  c : ℕ
  c = get_or text at d

  go : (s : Bool) → count ≡ (if s then 0 else 1) → squeezed (take (at + 1) text) ≡ squeezed (take at text) ++ (if s then [] else (c ∷ []))
      → take (end + count) (set room end c) ≡ base ++ squeezed (take (at + 1) text)
  go true none next =
      let place : end + count ≡ end = omega (arith, none) in
      ap (λ (n : ℕ). take n (set room end c)) place ∙ take-set room end c ∙ so_far
      ∙ ap (λ (l : List ℕ). base ++ l) (sym (next ∙ append-nil (squeezed (take at text))))
  go false one next =
      let place : end + count ≡ end + 1 = omega (arith, one) in
      ap (λ (n : ℕ). take n (set room end c)) place ∙ take_more_set room end c fits
      ∙ ap (λ (l : List ℕ). l ++ c ∷ []) so_far
      ∙ append_assoc base (squeezed (take at text)) (c ∷ [])
      ∙ ap (λ (l : List ℕ). base ++ l) (sym next)

-- the next 16 bytes are put after the others, without their white space
pub window_put : (base room now text : List ℕ) (end to i : ℕ) → take end room ≡ base ++ squeezed (take (16 * i) text)
    → take to now ≡ take end room ++ squeezed (take (16 * i + 16 - 16 * i) (drop (16 * i) text))
    → take to now ≡ base ++ squeezed (take (16 * (i + 1)) text)
window_put base room now text end to i so_far put =
    let at = 16 * i in
    let window = take (at + 16 - at) (drop at text) in
    let count : at + 16 - at ≡ 16 = omega arith in
    let place : 16 * (i + 1) ≡ at + 16 = omega arith in
    put ∙ ap (λ (l : List ℕ). l ++ squeezed window) so_far
    ∙ append_assoc base (squeezed (take at text)) (squeezed window)
    ∙ ap (λ (l : List ℕ). base ++ l) (
    sym (squeezed_more (take at text) window)
    ∙ ap squeezed (
    ap (λ (n : ℕ). take at text ++ take n (drop at text)) count ∙ sym (take-add at 16 text) ∙ ap (λ (n : ℕ). take n text) (sym place)))

-- 16 bytes that have no white space are put as they are
pub dense_put : (room now window : List ℕ) (end : ℕ) → length window ≡ 16 → squeezed window ≡ window
    → take (end + length window) now ≡ take end room ++ window → take (end + 16) now ≡ take end room ++ squeezed window
dense_put room now window end long same put = grind (arith, common_steps)

-- the rest of the text is put after the others, without its white space
pub rest_put : (base room now text rest : List ℕ) (end to at : ℕ) → take end room ≡ base ++ squeezed (take at text)
    → rest ≡ drop at text → take to now ≡ take end room ++ squeezed rest → take to now ≡ base ++ squeezed text
rest_put base room now text rest end to at so_far rest_is put =
    put ∙ ap (λ (l : List ℕ). l ++ squeezed rest) so_far
    ∙ append_assoc base (squeezed (take at text)) (squeezed rest)
    ∙ ap (λ (l : List ℕ). base ++ l) (
    sym (squeezed_more (take at text) rest)
    ∙ ap squeezed (ap (λ (l : List ℕ). take at text ++ l) rest_is ∙ take-append-drop at text))
