-- The bytes that differ.
use Rattle.std.proofs.Common.{◌≡◌, ◌+◌, ◌-◌, ◌⊎◌, ℕ, zero, suc, List, [], ◌∷◌, length, drop, Option, Some, None, IfSome, IfNone, Bor, min, refl, ◌∙◌, arith}
use Rattle.std.proofs.Common.{inl, inr, is_some, false}
use Rattle.fv_same.specs.Words.{all_differing, differing}

-- one of the lists has no more bytes
pub differs_end : (xs ys : List ℕ) (n : ℕ) → n ≡ min (length xs) (length ys)
    → differing (drop n xs) (drop n ys) ≡ (length xs - n) + (length ys - n)
differs_end [] ys zero e = omega arith
differs_end [] ys (suc n) e = absurd (omega (arith, e))
differs_end (x ∷ xs) [] zero e = omega arith
differs_end (x ∷ xs) [] (suc n) e = absurd (omega (arith, e))
differs_end (x ∷ xs) (y ∷ ys) zero e = absurd (omega (arith, e))
differs_end (x ∷ xs) (y ∷ ys) (suc n) e = differs_end xs ys n (omega (arith, e)) ∙ omega arith

-- the bytes at the front of a list of bytes, and what is left after them; or there are none
abbrev pub IsFront : List (List ℕ) → List (List ℕ) → List ℕ → Type 0
IsFront ps more l = (ps ≡ l ∷ more) ⊎ ((ps ≡ []) × (more ≡ []) × (l ≡ []))

pub front_of_asides : (o : Option (Bor (List ℕ))) (ps more : List (List ℕ)) (l : List ℕ) → IfSome o (λ b. ps ≡ b.now ∷ more)
    → IfNone o ((ps ≡ []) × (more ≡ [])) → IfSome o (λ b. l ≡ b.now) → IfNone o (l ≡ []) → IsFront ps more l
front_of_asides None ps more l some none is empty = inr (none.0, none.1, empty)
front_of_asides (Some b) ps more l some none is empty = inl (rw is some)

pub all_step : (ps qs more rest : List (List ℕ)) (l m : List ℕ) → IsFront ps more l → IsFront qs rest m
    → all_differing ps qs ≡ differing l m + all_differing more rest
all_step ps qs more rest l m (inl e) (inl f) = rw e (rw f refl)
all_step ps qs more rest l m (inl e) (inr f) = rw e (rw f.0 (rw f.1 (rw f.2 refl)))
all_step ps qs more rest l m (inr e) (inl f) = rw f (rw e.0 (rw e.1 (rw e.2 refl)))
all_step ps qs more rest l m (inr e) (inr f) = rw e.0 (rw e.1 (rw e.2 (rw f.0 (rw f.1 (rw f.2 refl)))))

pub no_aside : (o : Option (Bor (List ℕ))) (ps more : List (List ℕ)) → IfNone o ((ps ≡ []) × (more ≡ [])) → is_some o ≡ false → ps ≡ []
no_aside None ps more none e = none.0
no_aside (Some b) ps more none e = cc
