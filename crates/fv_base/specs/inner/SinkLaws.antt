-- The laws of the sink that keeps bytes in memory, and of the sink that writes to a borrowed port. These laws are
-- proofs, so nothing here has to be taken on trust. They are in specs/ because ghost members cite the last law of each
-- sink (`kept_by` and `write_by`).
use Rattle.std.proofs.Common.{ℕ, List, [], ◌++◌, ap, sym, ◌∙◌, append_assoc, append-nil, Bool, true, false, ◌≡◌, ◌+◌}
use Rattle.std.proofs.Common.{◌%◌, ◌^◌, ◌<◌, length, take, refl, subst, arith, add_assoc, add-zero, length-append}
use Rattle.fv_base.specs.Sinks.{KeptLatched, KeptTakes, WalkLaws, PortState, WritesBytes, WritesAll, WritesPrefix}
use Rattle.fv_base.specs.Sinks.{LatchedWrites, WriteTakes}
use Rattle.std.specs.Prelude.{Option, Some, None}
use Rattle.std.specs.Io.KnownBytes.{Appends}
use Rattle.std.proofs.lemmas.List.{take-append-le}
use Rattle.std.proofs.Math.Seq.{take-append-add}
use Rattle.std.proofs.Math.Nat.{mod-add-mod}

kept_none : (s : List ℕ) (a : Bool) → KeptLatched s a [] s a
kept_none s true = sym (append-nil s)
kept_none s false = tt

kept_joined : (s t u : List ℕ) (a b c : Bool) (xs ys : List ℕ) → KeptLatched s a xs t b → KeptLatched t b ys u c
    → KeptLatched s a (xs ++ ys) u c
kept_joined s t u true true true xs ys p q = q ∙ (ap (λ ws. ws ++ ys) p ∙ append_assoc s xs ys)
kept_joined s t u true b false xs ys p q = tt
kept_joined s t u false b false xs ys p q = tt
kept_joined s t u a false true xs ys p q = absurd q
kept_joined s t u false true true xs ys p q = absurd p

pub kept_by : {S : Type 0} (kept : S → List ℕ) (on : S → Bool) → WalkLaws (KeptTakes kept on)
kept_by kept on = record {
  none = λ s. kept_none (kept s) (on s);
  joined = λ {s} {t} {u} {a} {b} p q. kept_joined (kept s) (kept t) (kept u) (on s) (on t) (on u) a b p q;
}

pub sums_joined : (m s t u a b : ℕ) → t % m ≡ (s + a) % m → u % m ≡ (t + b) % m → u % m ≡ (s + (a + b)) % m
sums_joined m s t u a b p q =
    q ∙ (sym (mod-add-mod t m b)
    ∙ (ap (λ n. (n + b) % m) p ∙ (mod-add-mod (s + a) m b ∙ ap (λ n. n % m) (add_assoc s a b))))

appends_none : (s : Option (List ℕ)) → Appends s s []
appends_none None = tt
appends_none (Some xs) = sym (append-nil xs)

appends_joined : (s t u : Option (List ℕ)) (a b : List ℕ) → Appends s t a → Appends t u b → Appends s u (a ++ b)
appends_joined None t u a b p q = tt
appends_joined (Some xs) None u a b p q = absurd p
appends_joined (Some xs) (Some ys) None a b p q = absurd q
appends_joined (Some xs) (Some ys) (Some zs) a b p q = q ∙ (ap (λ ws. ws ++ b) p ∙ append_assoc xs a b)

bytes_joined : (s t u : PortState) (a b : List ℕ) → WritesBytes s a t → WritesBytes t b u → WritesBytes s (a ++ b) u
bytes_joined s t u a b p q = (
  appends_joined s.contents t.contents u.contents a b p.0 q.0,
  sums_joined (2 ^ 64) s.count t.count u.count (length a) (length b) p.1 q.1
      ∙ ap (λ n. (s.count + n) % 2 ^ 64) (sym (length-append a b)),
)

pub writes_joined : (s t u : PortState) (a b : List ℕ) → WritesAll s a t → WritesAll t b u → WritesAll s (a ++ b) u
writes_joined s t u a b p q = (bytes_joined s t u a b p.0 q.0, q.1 ∙ p.1)

prefix_early : (s t : PortState) (a b : List ℕ) → WritesPrefix s a t → WritesPrefix s (a ++ b) t
prefix_early s t a b h = (
  h.0,
  early h.0 (length a) (length b) (length (a ++ b)) (length-append a b) h.1,
  subst (λ xs. WritesBytes s xs t) (sym (take-append-le h.0 a b (omega (arith, h.1)))) h.2,
  h.3,
)
  where
    early : (n a b ab : ℕ) → ab ≡ a + b → n < a → n < ab
    early n a b ab e h = omega arith

prefix_later : (s t u : PortState) (a b : List ℕ) → WritesAll s a t → WritesPrefix t b u → WritesPrefix s (a ++ b) u
prefix_later s t u a b p h = (
  length a + h.0,
  later h.0 (length a) (length b) (length (a ++ b)) (length-append a b) h.1,
  subst (λ xs. WritesBytes s xs u) (sym (take-append-add a b h.0)) (bytes_joined s t u a (take h.0 b) p.0 h.2),
  h.3,
)
  where
    later : (n a b ab : ℕ) → ab ≡ a + b → n < b → a + n < ab
    later n a b ab e h = omega arith

pub latched_none : (s : PortState) (a : Bool) → LatchedWrites s a [] s a
latched_none s true = ((appends_none s.contents, ap (λ n. n % 2 ^ 64) (sym (add-zero s.count))), refl)
latched_none s false = refl

pub latched_joined : (s t u : PortState) (a b c : Bool) (xs ys : List ℕ) → LatchedWrites s a xs t b
    → LatchedWrites t b ys u c → LatchedWrites s a (xs ++ ys) u c
latched_joined s t u true true true xs ys p q = writes_joined s t u xs ys p q
latched_joined s t u true true false xs ys p q = prefix_later s t u xs ys p q
latched_joined s t u true false true xs ys p q = absurd q
latched_joined s t u true false false xs ys p q =
    subst (λ z. WritesPrefix s (xs ++ ys) z) (sym q) (prefix_early s t xs ys p)
latched_joined s t u false true c xs ys p q = absurd p
latched_joined s t u false false true xs ys p q = absurd q
latched_joined s t u false false false xs ys p q = q ∙ p

pub write_by : {S N : Type 0} (view : S → PortState) (on : S → Bool) (name : S → N) → WalkLaws (WriteTakes view on name)
write_by view on name = record {
  none = λ s. (refl, latched_none (view s) (on s));
  joined = λ {s} {t} {u} {a} {b} p q. (q.0 ∙ p.0, latched_joined (view s) (view t) (view u) (on s) (on t) (on u) a b p.1 q.1);
}
