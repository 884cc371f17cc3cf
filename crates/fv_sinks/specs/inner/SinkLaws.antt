-- The laws of the sink for a digest and of the sink that fills a buffer. These are proofs, so nothing here has to be
-- taken on trust. They are in specs/ because ghost members cite them.
use Rattle.std.proofs.Common.{◌≡◌, ◌∙◌, ℕ, List, [], ◌∷◌, ◌++◌, length, take, drop, refl, ap, sym, subst}
use Rattle.std.proofs.Common.{append_assoc, append-nil}
use Rattle.sha2.specs.Hashers.{Holds256}
use Rattle.sha2.specs.declared.Sha256.{Sha256}
use Rattle.fv_base.specs.Words.{WalkLaws}
use Rattle.fv_sinks.specs.DigestSinks.{DigestTakes}
use Rattle.fv_sinks.specs.BufferSinks.{BufferTakes}

pub digest_by : {S : Type 0} (hasher : S → Sha256) → WalkLaws (DigestTakes hasher)
digest_by hasher = record {
  none = λ s message held. subst (Holds256 (hasher s)) (sym (append-nil message)) held;
  joined = λ {s} {t} {u} {a} {b} p q message held.
      subst (Holds256 (hasher u)) (append_assoc message a b) (q (message ++ a) (p message held));
}

no_more : (r : List ℕ) → ◌≡◌ {A = List ℕ} (take (length r) []) []
no_more [] = refl
no_more (x ∷ xs) = refl

both_taken : (r a b : List ℕ) → take (length r) a ++ take (length (drop (length a) r)) b ≡ take (length r) (a ++ b)
both_taken [] [] b = refl
both_taken [] (y ∷ ys) b = refl
both_taken (x ∷ xs) [] b = refl
both_taken (x ∷ xs) (y ∷ ys) b = ap (λ l. y ∷ l) (both_taken xs ys b)

both_dropped : (r a b : List ℕ) → drop (length b) (drop (length a) r) ≡ drop (length (a ++ b)) r
both_dropped r [] b = refl
both_dropped [] (y ∷ ys) [] = refl
both_dropped [] (y ∷ ys) (z ∷ zs) = refl
both_dropped (x ∷ xs) (y ∷ ys) b = both_dropped xs ys b

pub buffer_by : {S N : Type 0} (taken rest : S → List ℕ) (name : S → N) → WalkLaws (BufferTakes taken rest name)
buffer_by taken rest name = record {
  none = λ s. (refl, sym (ap (λ l. taken s ++ l) (no_more (rest s)) ∙ append-nil (taken s)), refl);
  joined = λ {s} {t} {u} {a} {b} p q. (
    q.0 ∙ p.0,
    q.1 ∙ ap (λ l. l ++ take (length (rest t)) b) p.1 ∙ append_assoc (taken s) (take (length (rest s)) a) (take (length (rest t)) b)
        ∙ ap (λ l. taken s ++ (take (length (rest s)) a ++ take (length l) b)) p.2
        ∙ ap (λ l. taken s ++ l) (both_taken (rest s) a b),
    q.2 ∙ ap (λ l. drop (length b) l) p.2 ∙ both_dropped (rest s) a b,
  );
}
