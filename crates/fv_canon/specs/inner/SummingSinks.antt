-- The sink of a walk over a volume: it puts the bytes that it takes into the sink below or, while the data of a file
-- are being summed, adds them to the sum. The laws are proofs. They are in specs/ because a ghost member cites the last
-- of them.
use Rattle.std.proofs.Common.{◌≡◌, ℕ, ◌+◌, ◌%◌, List, [], ◌++◌, Bool, true, false, refl, sym, subst, ◌∙◌, ap, add-zero}
use Rattle.std.specs.Prelude.{sum}
use Rattle.std.proofs.lemmas.List.Sums.{sum_by-append}
use Rattle.fv_base.specs.Words.{WalkLaws}
use Rattle.fv_base.specs.inner.SinkLaws.{sums_joined}
use Rattle.fv_canon.specs.declared.summing_sink.Mode.{Mode}
use Rattle.fv_canon.specs.declared.summing_sink.Mode.TheVariants.{Putting, Summing}
use Rattle.fv_canon.specs.declared.summing_sink.SummingSink.{SummingSink}

-- whether the sink sums the bytes that it takes
abbrev pub sums : Mode → Bool
sums Putting = false
sums (Summing total) = true

-- the sum of the bytes so far
abbrev pub total_of : Mode → ℕ
total_of Putting = 0
total_of (Summing total) = total

-- either the sum grew by the bytes, modulo 256, and nothing was put into the sink below; or the bytes were put into it
abbrev pub AddsOrPuts : {T : Type 0} (takes : T → List ℕ → T → Type 0) → Bool → T → ℕ → List ℕ → T → ℕ → Type 0
AddsOrPuts takes true s m bytes t n = (t ≡ s) × (n % 256 ≡ (m + sum bytes) % 256)
AddsOrPuts takes false s m bytes t n = takes s bytes t

-- the sink takes the bytes as before, by summing or by putting them, and the sink below is still the same
abbrev pub ImageTakes : {S : Type 0} (takes : S → List ℕ → S → Type 0) → SummingSink S → List ℕ → SummingSink S → Type 0
ImageTakes takes s bytes t =
    (t.below.ghost_name ≡ s.below.ghost_name) × (sums t.mode ≡ sums s.mode)
    × AddsOrPuts takes (sums s.mode) s.below.now (total_of s.mode) bytes t.below.now (total_of t.mode)

nothing_put : {T : Type 0} {takes : T → List ℕ → T → Type 0} (laws : WalkLaws takes) (adds : Bool) (s : T) (n : ℕ)
    → AddsOrPuts takes adds s n [] s n
nothing_put laws true s n = (refl, ap (λ k. k % 256) (sym (add-zero n)))
nothing_put laws false s n = laws.none s

both_put : {T : Type 0} {takes : T → List ℕ → T → Type 0} (laws : WalkLaws takes) (adds : Bool) (s t u : T) (k m n : ℕ)
    (a b : List ℕ) → AddsOrPuts takes adds s k a t m → AddsOrPuts takes adds t m b u n
    → AddsOrPuts takes adds s k (a ++ b) u n
both_put laws true s t u k m n a b p q = (
  q.0 ∙ p.0,
  sums_joined 256 k m n (sum a) (sum b) p.1 q.1 ∙ ap (λ i. (k + i) % 256) (sym (sum_by-append (λ x. x) a b)),
)
both_put laws false s t u k m n a b p q = laws.joined p q

pub image_by : {S : Type 0} {takes : S → List ℕ → S → Type 0} (laws : WalkLaws takes) → WalkLaws (ImageTakes takes)
image_by {S} {takes} laws = record {
  none = λ s. (refl, refl, nothing_put laws (sums s.mode) s.below.now (total_of s.mode));
  joined = λ {s} {t} {u} {a} {b} p q. (
    q.0 ∙ p.0,
    q.1 ∙ p.1,
    both_put laws (sums s.mode) s.below.now t.below.now u.below.now (total_of s.mode) (total_of t.mode) (total_of u.mode) a b p.2
        (subst (λ (c : Bool). AddsOrPuts takes c t.below.now (total_of t.mode) b u.below.now (total_of u.mode)) p.1 q.2),
  );
}
