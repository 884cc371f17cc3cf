-- The findings of a header are exactly the kinds of the rules that it breaks.
use Rattle.std.proofs.Common.{◌≡◌, ◌^◌, ℕ, List, [], ◌∷◌, Bool, ◌&&◌, ◌||◌, ◌==◌, true, false, bit_or, max}
use Rattle.std.proofs.Common.{if◌then◌else◌, refl, sym, ap, ◌∙◌, subst, arith, eq-eqb, eqb-true}
use Rattle.std.specs.Int.{bit_at}
use Rattle.std.specs.List.{list_any}
use Rattle.std.proofs.lemmas.Bool.{eqb-false}
use Rattle.std.proofs.lemmas.Nat.Bits.{bit_at_or, bit_at-zero, bit_at-lt, bit_at-pow_same, bit_at-pow_other}
use Rattle.fv_base.specs.Words.{fault_number}
use Rattle.fv_base.specs.declared.fault.FaultKind.{FaultKind}
use Rattle.fv_base.specs.declared.fault.FaultKind.TheVariants as kinds
use Rattle.fv_survey.specs.declared.findings.Findings.{Findings}
use Rattle.fv_survey.specs.Words.{bit_of_kind, bits_of, breaks, has_finding, header_findings, header_kinds, with_breaks, with_if}

or_none : (t : Bool) → (t || false) ≡ t
or_none true = refl
or_none false = refl

or_all : (t : Bool) → (t || true) ≡ true
or_all true = refl
or_all false = refl

or_join : (s t u : Bool) → ((s || t) || u) ≡ (s || (t || u))
or_join true t u = refl
or_join false t u = refl

-- one more bit is set
bit_more : (s n i : ℕ) (t : Bool) → (n == i) ≡ t → (bit_at (bit_or s (2 ^ n)) i == 1) ≡ ((bit_at s i == 1) || t)
bit_more s n i true e =
    let one : bit_at (2 ^ n) i ≡ 1 = subst (λ (j : ℕ). bit_at (2 ^ n) j ≡ 1) (eqb-true n i e) (bit_at-pow_same n) in
    let set : max (bit_at s i) (bit_at (2 ^ n) i) ≡ 1 = omega (arith, one, bit_at-lt s i) in
    eq-eqb _ 1 (bit_at_or s (2 ^ n) i ∙ set) ∙ sym (or_all (bit_at s i == 1))
bit_more s n i false e =
    let none : bit_at (2 ^ n) i ≡ 0 = bit_at-pow_other n i (λ same. eqb-false n i e (sym same)) in
    let kept : max (bit_at s i) (bit_at (2 ^ n) i) ≡ bit_at s i = omega (arith, none) in
    ap (λ (v : ℕ). v == 1) (bit_at_or s (2 ^ n) i ∙ kept) ∙ sym (or_none (bit_at s i == 1))

-- one more kind is in the set, if its rule is broken
kind_more : (k : FaultKind) (s i : ℕ) (t : Bool)
    → (bit_at (if t then bit_or s (bit_of_kind k) else s) i == 1) ≡ ((bit_at s i == 1) || ((fault_number k == i) && t))
kind_more k s i true = bit_more s (fault_number k) i (fault_number k == i) refl ∙ ap (λ (t : Bool). (bit_at s i == 1) || t) (sym (and_all (fault_number k == i))) where
  and_all : (t : Bool) → (t && true) ≡ t
  and_all true = refl
  and_all false = refl
kind_more k s i false = sym (or_none (bit_at s i == 1)) ∙ ap (λ (t : Bool). (bit_at s i == 1) || t) (sym (and_none (fault_number k == i))) where
  and_none : (t : Bool) → (t && false) ≡ false
  and_none true = refl
  and_none false = refl

broken_bit : (b : List ℕ) (i : ℕ) (ks : List FaultKind) (s : ℕ)
    → (bit_at (with_breaks s b ks) i == 1) ≡ ((bit_at s i == 1) || list_any (λ k. (fault_number k == i) && breaks k b) ks)
broken_bit b i [] s = sym (or_none (bit_at s i == 1))
broken_bit b i (k ∷ ks) s =
    let later : Bool = list_any (λ k. (fault_number k == i) && breaks k b) ks in
    broken_bit b i ks (if breaks k b then bit_or s (bit_of_kind k) else s)
    ∙ ap (λ (t : Bool). t || later) (kind_more k s i (breaks k b))
    ∙ or_join (bit_at s i == 1) ((fault_number k == i) && breaks k b) later

-- a kind is in the findings of a header exactly if the header breaks its rule
pub finding_is : (k : FaultKind) (b : List ℕ) → has_finding k (header_findings b) ≡ breaks k b
unfolding header_findings
finding_is k b = broken_bit b (fault_number k) header_kinds 0 ∙ go k where
  go : (k : FaultKind) → ((bit_at 0 (fault_number k) == 1) || list_any (λ j. (fault_number j == fault_number k) && breaks j b) header_kinds) ≡ breaks k b
  go kinds.Truncated = or_none _
  go kinds.Signature = or_none _
  go kinds.FileSystem = or_none _
  go kinds.Revision = or_none _
  go kinds.HeaderLength = or_none _
  go kinds.HeaderSum = or_none _
  go kinds.BlockMap = or_none _
  go kinds.Length = or_none _
  go kinds.ExtHeader = or_none _
  go _ = refl

-- a header without findings breaks no rule
pub none_broken : (b : List ℕ) → bits_of (header_findings b) ≡ 0 → (k : FaultKind) → breaks k b ≡ false
none_broken b none k =
    let zero : bit_at (bits_of (header_findings b)) (fault_number k) ≡ 0 =
    ap (λ (s : ℕ). bit_at s (fault_number k)) none ∙ bit_at-zero (fault_number k) in
    sym (finding_is k b) ∙ ap (λ (v : ℕ). v == 1) zero

-- a header that breaks no rule has no findings
kept : (b : List ℕ) → ((k : FaultKind) → breaks k b ≡ false) → (ks : List FaultKind) (s : ℕ) → with_breaks s b ks ≡ s
kept b none [] s = refl
kept b none (k ∷ ks) s = rw (none k) (kept b none ks s)

pub no_findings : (b : List ℕ) → ((k : FaultKind) → breaks k b ≡ false) → bits_of (header_findings b) ≡ 0
unfolding header_findings
no_findings b none = kept b none header_kinds 0

-- one more rule: the set as a number
pub one_more : (b : List ℕ) (k : FaultKind) (broken : Bool) (set : Findings) (n : ℕ) → broken ≡ breaks k b → set ≡ record { bits = n }
    → with_if broken k set ≡ record { bits = if breaks k b then bit_or n (bit_of_kind k) else n }
one_more b k broken set n is e = rw (is, e) (go (breaks k b)) where
  go : (v : Bool) → with_if v k (record { bits = n }) ≡ record { bits = if v then bit_or n (bit_of_kind k) else n }
  go true = refl
  go false = refl
