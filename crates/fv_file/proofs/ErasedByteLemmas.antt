-- A byte that does not have the value e shows that not all bytes have the value e (`all_at`, `not_all`). If the test
-- whether all bytes have the value e is false, not all bytes have this value (`not_erased`), and there are some bytes
-- (`some_left`).
use Rattle.std.proofs.Common.{◌≡◌, ℕ, ◌<◌, [], ◌∷◌}
use Rattle.fv_base.proofs.Laws.{List, length, get_or, refl, sym, arith, Bool, true, false, at_index, AllAre, all_are, all-all_are, all_are-true}

pub all_at : (e : ℕ) (x : List ℕ) (i : ℕ) → AllAre e x → i < length x → get_or x i 0 ≡ e
all_at e x i all l = at_index (λ (b : ℕ). b ≡ e) x i 0 all l

-- if one byte does not have the value e, the test whether all bytes have this value is false
pub not_all : (e : ℕ) (x : List ℕ) (i : ℕ) → i < length x → (get_or x i 0 ≡ e → ⊥) → false ≡ all_are e x
not_all e x i l differs = go (all_are e x) refl where
  go : (t : Bool) → all_are e x ≡ t → false ≡ all_are e x
  go true is = absurd (differs (all_at e x i (all_are-true e x is) l))
  go false is = sym is

-- if the test is false, not all bytes have the value e
pub not_erased : (e : ℕ) (x : List ℕ) → all_are e x ≡ false → AllAre e x → ⊥
not_erased e x is all = cc (is, all-all_are e x all)

pub some_left : (e : ℕ) (x : List ℕ) → all_are e x ≡ false → 0 < length x
some_left e [] is = absurd (not_erased e [] is tt)
some_left e (a ∷ x) is = omega arith
