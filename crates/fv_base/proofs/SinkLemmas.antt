-- After one walk or several, a sink holds the bytes of all of them.
use Rattle.std.proofs.lemmas.Grind.{common_steps}
use Rattle.std.proofs.Common.{◌≡◌, ℕ, ◌+◌, ◌<◌, [], ◌||◌, ◌&&◌, ◌==◌, List, take, drop, length, replicate, sym, ◌∙◌, ap, subst, arith}
use Rattle.std.proofs.Common.{not, eqb-true, Bool, true, Option, Result, IfOk}
use Rattle.std.proofs.lemmas.List.{replicate-append-replicate}
use Rattle.std.proofs.Math.Seq.{take-add}
use Rattle.std.proofs.KnownBytes.{Appends-trans}
use Rattle.std.specs.Io.KnownBytes.{Appends}
use Rattle.fv_base.specs.Words.{KeptLatched, WalkLaws}
use Rattle.fv_base.specs.declared.fault.Fault.{Fault}

-- two walks over copies of one byte are one walk over all these copies
pub run_joined : {S : Type 0} {takes : S → List ℕ → S → Type 0} (laws : WalkLaws takes) (s t u : S) (byte m n k : ℕ)
    → takes s (replicate m byte) t → takes t (replicate n byte) u → m + n ≡ k → takes s (replicate k byte) u
run_joined {S} {takes} laws s t u byte m n k p q e =
    subst (λ xs. takes s xs u) (replicate-append-replicate m n byte ∙ ap (λ i. replicate i byte) e)
    (laws.joined p q)

-- if the first m bytes were written, and then the next n, the first m + n bytes were written
pub more_written : (a b c : Option (List ℕ)) (m n : ℕ) (bytes : List ℕ) → Appends a b (take m bytes) → Appends b c (take n (drop m bytes))
    → Appends a c (take (m + n) bytes)
more_written a b c m n bytes first next = subst (Appends a c) (sym (take-add m n bytes)) (Appends-trans a b c _ _ first next)

-- a write that took at least one byte did not fail
pub some_taken : (erred : Bool) (n : ℕ) (buf : List ℕ) → 0 < n → (erred || ((n == 0) && not (length buf == 0))) ≡ erred
some_taken erred n buf some = grind (arith, common_steps, eqb-true)

-- a list sink that was empty, and took bytes without stopping, holds these bytes
pub kept_whole : (s k bytes : List ℕ) (a b : Bool) (r : Result (List ℕ) Fault) → s ≡ [] → a ≡ true → KeptLatched s a bytes k b
    → IfOk r (λ o. (b ≡ true) × (o ≡ k)) → IfOk r (λ o. o ≡ bytes)
kept_whole s k bytes a b r none on taken got = grind (arith, common_steps)
