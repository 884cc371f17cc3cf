-- The comparison of expected bytes with bytes that come in parts. The laws are proofs. They are in specs/ because a
-- ghost member cites the last of them.
use Rattle.std.specs.Prelude.{◌≡◌, ℕ, List, ◌++◌, Bool, true, false}
use Rattle.std.proofs.Common.{[], refl, ap, sym, ◌∙◌, append_assoc}
use Rattle.std.proofs.lemmas.List.{append_cancel_left}
use Rattle.fv_base.specs.Words.{WalkLaws}

-- s does not begin with these bytes
abbrev pub IsNotPrefix : List ℕ → List ℕ → Type 0
IsNotPrefix s bytes = (more : List ℕ) → s ≡ bytes ++ more → ⊥

-- how the expected bytes s change when bytes come. If all earlier bytes were as expected, the new bytes are taken off
-- the front of s; or s does not begin with them, and from then on nothing is compared
abbrev pub MatchLatched : List ℕ → Bool → List ℕ → List ℕ → Bool → Type 0
MatchLatched s true bytes t true = s ≡ bytes ++ t
MatchLatched s true bytes t false = IsNotPrefix s bytes
MatchLatched s false bytes t true = ⊥
MatchLatched s false bytes t false = Unit {0}

-- the same for a sink: `rest` gives the expected bytes that are left, and `same` whether all bytes so far were as
-- expected
abbrev pub MatchTakes : {S : Type 0} (rest : S → List ℕ) (same : S → Bool) → S → List ℕ → S → Type 0
MatchTakes rest same s bytes t = MatchLatched (rest s) (same s) bytes (rest t) (same t)

match_none : (s : List ℕ) (a : Bool) → MatchLatched s a [] s a
match_none s true = refl
match_none s false = tt

match_joined : (s t u : List ℕ) (a b c : Bool) (xs ys : List ℕ) → MatchLatched s a xs t b → MatchLatched t b ys u c
    → MatchLatched s a (xs ++ ys) u c
match_joined s t u true true true xs ys p q = p ∙ (ap (λ zs. xs ++ zs) q ∙ sym (append_assoc xs ys u))
match_joined s t u true true false xs ys p q =
    λ more e. q more (append_cancel_left xs t (ys ++ more) (sym p ∙ (e ∙ append_assoc xs ys more)))
match_joined s t u true false false xs ys p q = λ more e. p (ys ++ more) (e ∙ append_assoc xs ys more)
match_joined s t u false false false xs ys p q = tt
match_joined s t u false true c xs ys p q = absurd p
match_joined s t u a false true xs ys p q = absurd q

pub matches_by : {S : Type 0} (rest : S → List ℕ) (same : S → Bool) → WalkLaws (MatchTakes rest same)
matches_by rest same = record {
  none = λ s. match_none (rest s) (same s);
  joined = λ {s} {t} {u} {a} {b}. match_joined (rest s) (rest t) (rest u) (same s) (same t) (same u) a b;
}
