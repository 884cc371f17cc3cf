-- The entries of an index are totally ordered: first by name, and then by file number.
use Rattle.std.proofs.Common.{◌≡◌, ◌≤◌, ◌==◌, ◌&&◌, true, false, ap, ◌∙◌, arith}
use Rattle.fv_base.proofs.Laws.{common_steps, Decides, is_lt}
use Rattle.std.specs.Cmp.{IsTotalOrder, IsStrictWeakOrder}
use Rattle.std.proofs.lemmas.Cmp.{nat_cmp_total, on_total, then_total}
use Rattle.std.proofs.lemmas.List.MinMax.{ranks_by}
use Rattle.fv_names.specs.Words.{Entry, Halves, entry_cmp, halves_cmp}

-- ---- the order is total

halves_total : IsTotalOrder halves_cmp
halves_total = then_total (on_total (λ (h : Halves). h.0) nat_cmp_total) (on_total (λ (h : Halves). h.1) nat_cmp_total)

pub less_orders : IsStrictWeakOrder (λ (a b : Entry). is_lt (entry_cmp a b))
less_orders =
    ranks_by (then_total (on_total (λ (e : Entry). e.0) halves_total) (on_total (λ (e : Entry). e.1) nat_cmp_total)) (λ (e : Entry). e)

-- ---- names that are equal

pub same_pair : {A B : Type 0} (a b : A × B) → a.0 ≡ b.0 → a.1 ≡ b.1 → a ≡ b
same_pair {A} {B} a b p q = ap (λ (x : A). (x, a.1)) p ∙ ap (λ (y : B). (b.0, y)) q

-- the test that the code makes decides whether two names are equal
pub halves_decide : (a b : Halves) → Decides ((a.0 == b.0) && (a.1 == b.1)) (a ≡ b)
halves_decide a b = grind (arith, common_steps, same_pair)

-- ---- entries in their order

-- entries with the same name are ordered by file number
pub numbers_rise : (a b : Entry) → is_lt (entry_cmp b a) ≡ false → a.0 ≡ b.0 → a.1 ≤ b.1
numbers_rise a b order same = grind (arith, common_steps)

-- an entry between two entries with the same name has this name too
pub one_name_between : (a b c : Entry) → is_lt (entry_cmp b a) ≡ false → is_lt (entry_cmp c b) ≡ false → a.0 ≡ c.0 → b.0 ≡ c.0
one_name_between a b c low high same = grind (arith, common_steps, same_pair)

-- ---- names in their order

-- an entry that is not less than another has a name that does not precede the other's
pub name_upto : (a b : Entry) → is_lt (entry_cmp b a) ≡ false → is_lt (halves_cmp b.0 a.0) ≡ false
name_upto a b h = grind (arith, common_steps)

pub before_too : (a b key : Halves) → is_lt (halves_cmp b a) ≡ false → is_lt (halves_cmp b key) ≡ true → is_lt (halves_cmp a key) ≡ true
before_too a b key order less = grind (arith, common_steps)

-- a name does not precede itself, and of two names one precedes the other, or they are the same
pub not_before_itself : (a b : Halves) → a ≡ b → is_lt (halves_cmp a b) ≡ true → ⊥
not_before_itself a b same less = grind (arith, common_steps)

pub neither_before : (a b : Halves) → is_lt (halves_cmp a b) ≡ false → is_lt (halves_cmp b a) ≡ false → a ≡ b
neither_before a b least most = grind (arith, common_steps, same_pair)
