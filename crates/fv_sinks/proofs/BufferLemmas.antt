-- A buffer holds the bytes that were put into it, and is unchanged after them.
use Rattle.std.proofs.Common.{◌≡◌, ◌⊎◌, ℕ, ◌+◌, ◌-◌, ◌<◌, ◌≤◌, ◌∙◌, List, length, min, drop, ap, sym, inl, inr, arith, drop-drop}
use Rattle.fv_base.proofs.Laws.{cases_lt, drop_of_length-le}

-- after the bytes that were put, as many as fit, the room has the same bytes as before
pub room_left : (xs : List ℕ) (at n count : ℕ) → count ≡ min n (length xs - at) → drop (at + count) xs ≡ drop n (drop at xs)
room_left xs at n count is = go (cases_lt n (length xs - at)) where
  go : (n < length xs - at) ⊎ (length xs - at ≤ n) → drop (at + count) xs ≡ drop n (drop at xs)
  go (inl fit) =
      let same : at + count ≡ at + n = omega (arith, is, fit) in
      ap (λ k. drop k xs) same ∙ sym (drop-drop n at xs)
  go (inr more) =
      drop_of_length-le xs (omega (arith, is, more)) ∙ sym (drop-drop n at xs ∙ drop_of_length-le xs (omega (arith, more)))
