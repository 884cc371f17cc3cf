-- Proves that a walk which writes reports of rows to a buffer goes on with a further row (`list_one_more`), which is one
-- of all rows (`room_left`).
use Rattle.std.proofs.Common.{◌≡◌, ◌≤◌, ◌<◌, ◌+◌, ◌∙◌, ◌++◌, ℕ, Bool, true, false, List, [], ◌∷◌, ap, arith, drop}
use Rattle.std.proofs.Common.{get_or, length, map, nat_lt, refl, set, suc, sym, take, zero-add}
use Rattle.std.proofs.lemmas.List.{append_assoc, get_or-map, get_or_at, length-append, length-map, length-set}
use Rattle.std.proofs.lemmas.List.Edits.{paste_more}
use Rattle.fv_base.proofs.Laws.{nat_tests}
use Rattle.fv_c.specs.inner.ListedRows.{BeginsWith, IsListed}

module _ {A B : Type 0} {report : A → B} {every : List A} {n : ℕ} {walk : List A} {old new : List B} where
  -- the number of all rows, if one row is left
  long_with : (row : A) (left : List A) → walk ≡ row ∷ left → (w : IsListed report every n walk old new)
      → n + suc (length left) ≡ length every
  long_with row left first w =
      let both : length w.done + suc (length left) ≡ length (w.done ++ row ∷ left) = sym (length-append w.done (row ∷ left)) in
      let all : w.done ++ row ∷ left ≡ every = rw first at w.all in
      omega (arith, both, ap length all, w.long)

  -- the next row is counted too
  pub room_left : (row : A) (left : List A) → walk ≡ row ∷ left → IsListed report every n walk old new → n + 1 ≤ length every
  room_left row left first w = omega (arith, long_with row left first w)

  -- row n is the next row
  next_is : (row : A) (left : List A) → walk ≡ row ∷ left → (w : IsListed report every n walk old new)
      → get_or (map report every) n (report row) ≡ report row
  next_is row left first w =
      let all : w.done ++ row ∷ left ≡ every = rw first at w.all in
      let some : n < length every = omega (arith, long_with row left first w) in
      get_or-map report every n row (report row) some
      ∙ ap report (ap (λ rows. get_or rows n row) (sym all) ∙ get_or_at w.done row left row n w.long)

  -- a further row is written, if there is room for it
  pub list_one_more : (row : A) (left : List A) (next : List B) → walk ≡ row ∷ left
      → (n < length new → next ≡ set new n (report row)) → (length new ≤ n → next ≡ new) → IsListed report every n walk old new
      → IsListed report every (n + 1) left old next
  list_one_more row left next first put kept w = go (nat_lt n (length new)) refl where
    rows : List B
    rows = map report every

    written : n < length new → next ≡ take (n + 1) rows ++ drop (n + 1) old
    written lt =
        let some : n < length rows = omega (arith, length-map every report, long_with row left first w) in
        let step = paste_more old 0 rows n (report row) (omega (arith, w.size, lt)) some in
        put lt ∙ ap (λ b. set b n (report row)) (w.rows.fits (omega (arith, w.size, lt)))
        ∙ ap (λ r. set (take n rows ++ drop n old) n r) (sym (next_is row left first w)) ∙ (simp zero-add at step)

    size_is : (v : Bool) → nat_lt n (length new) ≡ v → length next ≡ length old
    size_is true e = ap length (put (grind (arith, nat_tests))) ∙ (length-set new n (report row) ∙ w.size)
    size_is false e = ap length (kept (grind (arith, nat_tests))) ∙ w.size

    listed : (length next ≡ length old) → BeginsWith (n + 1) rows old next → IsListed report every (n + 1) left old next
    listed size begins = record {
      done = w.done ++ row ∷ [];
      all = append_assoc w.done (row ∷ []) left ∙ (rw first at w.all);
      long = length-append w.done (row ∷ []) ∙ ap (λ k. k + 1) w.long;
      size = size;
      rows = begins;
    }

    go : (v : Bool) → nat_lt n (length new) ≡ v → IsListed report every (n + 1) left old next
    go true e =
        let lt : n < length new = grind (arith, nat_tests) in
        listed (size_is true e) (record {
          fits = λ _. written lt;
          full = λ most. let end : length old ≡ n + 1 = omega (arith, most, lt, w.size) in rw end (written lt);
        })
    go false e =
        let most : length new ≤ n = grind (arith, nat_tests) in
        listed (size_is false e) (record {
          fits = λ le. absurd (omega (arith, le, most, w.size));
          full = λ _. kept most ∙ w.rows.full (omega (arith, most, w.size));
        })
