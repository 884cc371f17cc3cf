-- The laws of sinks that put bytes into a sink below. These are proofs. They are in specs/ because ghost members cite
-- some of them.
use Rattle.std.proofs.Common.{◌≡◌, ℕ, List, length, ◌∙◌, refl, [], ◌++◌, sym, ap, append_assoc, append-nil, ◌∷◌, subst}
use Rattle.fv_base.specs.Words.{WalkLaws}
use Rattle.fv_text.specs.SinkAdapters.{LentTakes, Gathered, Lined}
use Rattle.std.specs.List.{AllByRecursion, concat}
use Rattle.std.proofs.lemmas.List.Concat.{flat_map-append}
use Rattle.std.proofs.lemmas.List.Folds.{concat-append}
use Rattle.fv_text.specs.HexText.{line_text}

pub lent_by : {S H N : Type 0} (takes : S → List ℕ → S → Type 0) (lent : H → S) (name : H → N) → WalkLaws takes
    → WalkLaws (LentTakes takes lent name)
lent_by takes lent name laws = record {
  none = λ s. (refl, laws.none (lent s));
  joined = λ x y. (y.0 ∙ x.0, laws.joined x.1 y.1);
}

-- a sink above another obeys the laws if the moves of the sink below and of the waiting bytes obey them
pub waiting_by : {S H : Type 0} (moves : S → List ℕ → List ℕ → S → List ℕ → Type 0) (below : H → S) (waiting : H → List ℕ)
    → ((s : S) (p : List ℕ) → moves s p [] s p)
    → ((s t u : S) (p q r a b : List ℕ) → moves s p a t q → moves t q b u r → moves s p (a ++ b) u r)
    → WalkLaws (λ (h : H) (bytes : List ℕ) (k : H). moves (below h) (waiting h) bytes (below k) (waiting k))
waiting_by moves below waiting none joined = record {
  none = λ h. none (below h) (waiting h);
  joined = λ {s} {t} {u} {a} {b}. joined (below s) (below t) (below u) (waiting s) (waiting t) (waiting u) a b;
}

pub gathered_joined : {S : Type 0} (takes : S → List ℕ → S → Type 0) → WalkLaws takes → (s t u : S) (p q r a b : List ℕ)
    → Gathered takes s p a t q → Gathered takes t q b u r → Gathered takes s p (a ++ b) u r
gathered_joined takes laws s t u p q r a b x y = record {
  passed = x.passed ++ y.passed;
  joined = sym (append_assoc p a b) ∙ ap (λ (l : List ℕ). l ++ b) x.joined ∙ append_assoc x.passed q b
      ∙ ap (λ (l : List ℕ). x.passed ++ l) y.joined ∙ sym (append_assoc x.passed y.passed r);
  taken = laws.joined x.taken y.taken;
}

pub gathered_by : {S H : Type 0} (takes : S → List ℕ → S → Type 0) (below : H → S) (waiting : H → List ℕ) → WalkLaws takes
    → WalkLaws (λ (h : H) (bytes : List ℕ) (k : H). Gathered takes (below h) (waiting h) bytes (below k) (waiting k))
gathered_by takes below waiting laws =
    waiting_by (Gathered takes) below waiting
    (λ s p. record { passed = []; joined = append-nil p; taken = laws.none s }) (gathered_joined takes laws)

whole_more : (xs ys : List (List ℕ)) → AllByRecursion (λ b. length b ≡ 32) xs → AllByRecursion (λ b. length b ≡ 32) ys
    → AllByRecursion (λ b. length b ≡ 32) (xs ++ ys)
whole_more [] ys a b = b
whole_more (x ∷ xs) ys a b = (a.0, whole_more xs ys a.1 b)

pub lined_joined : {S : Type 0} (takes : S → List ℕ → S → Type 0) → WalkLaws takes → (s t u : S) (p q r a b : List ℕ)
    → Lined takes s p a t q → Lined takes t q b u r → Lined takes s p (a ++ b) u r
lined_joined takes laws s t u p q r a b x y = record {
  lines = x.lines ++ y.lines;
  joined = sym (append_assoc p a b) ∙ ap (λ (l : List ℕ). l ++ b) x.joined ∙ append_assoc (concat x.lines) q b
      ∙ ap (λ (l : List ℕ). concat x.lines ++ l) y.joined ∙ sym (append_assoc (concat x.lines) (concat y.lines) r)
      ∙ ap (λ (l : List ℕ). l ++ r) (sym (concat-append x.lines y.lines));
  whole_lines = whole_more x.lines y.lines x.whole_lines y.whole_lines;
  taken = subst (λ (l : List ℕ). takes s l u) (sym (flat_map-append line_text x.lines y.lines))
      (laws.joined x.taken y.taken);
}

pub hex_by : {S H : Type 0} (takes : S → List ℕ → S → Type 0) (below : H → S) (waiting : H → List ℕ) → WalkLaws takes
    → WalkLaws (λ (h : H) (bytes : List ℕ) (k : H). Lined takes (below h) (waiting h) bytes (below k) (waiting k))
hex_by takes below waiting laws =
    waiting_by (Lined takes) below waiting
    (λ s p. record { lines = []; joined = append-nil p; whole_lines = tt; taken = laws.none s }) (lined_joined takes laws)
