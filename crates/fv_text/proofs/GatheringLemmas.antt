-- A sink that gathers pieces has put the bytes that it took, once the gathered rest is put.
use Rattle.std.proofs.Common.{◌≡◌, ◌∙◌, ℕ, List, [], ◌++◌, ap, subst, sym, append-nil}
use Rattle.fv_base.specs.Words.{WalkLaws}
use Rattle.fv_text.specs.Words.{Gathered}

-- the gathered bytes were put, and then more bytes directly
pub passed_on : {S : Type 0} {takes : S → List ℕ → S → Type 0} → WalkLaws takes → (s t u : S) (p bytes q : List ℕ) → q ≡ []
    → Gathered takes s p [] t q → takes t bytes u → Gathered takes s p bytes u q
passed_on laws s t u p bytes q none x put =
    let whole : p ≡ x.passed = sym (append-nil p) ∙ x.joined ∙ ap (λ (l : List ℕ). x.passed ++ l) none ∙ append-nil x.passed in
    record {
      passed = x.passed ++ bytes;
      joined = ap (λ (l : List ℕ). l ++ bytes) whole ∙ sym (append-nil (x.passed ++ bytes))
          ∙ ap (λ (l : List ℕ). (x.passed ++ bytes) ++ l) (sym none);
      taken = laws.joined x.taken put;
    }

-- a sink that had gathered nothing took the bytes, and then the gathered rest was put, so all the bytes were put
pub gathered_all : {S : Type 0} {takes : S → List ℕ → S → Type 0} → WalkLaws takes → (s t u : S) (p bytes q : List ℕ) → p ≡ []
    → Gathered takes s p bytes t q → takes t q u → takes s bytes u
gathered_all {takes = takes} laws s t u p bytes q none x last =
    subst (λ (l : List ℕ). takes s l u) (sym x.joined ∙ ap (λ (l : List ℕ). l ++ bytes) none)
    (laws.joined x.taken last)
