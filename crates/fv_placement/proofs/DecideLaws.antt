-- Trying all possible starts decides whether the files of a volume can be placed, so they have a first placement, or a
-- reason why they have none. The steps:
-- 1. Statements that are made of decided statements are decided (`both`, `either`, `not_so`), and so is whether a file
--    can begin at a start (`stands_dec`).
-- 2. Among the numbers below a limit, there is a least one for which a decided statement is true, or none (`least_of`).
-- 3. So files have first starts after an edge, or none (`follows`), and a first placement, or none (`placed_or_none`).
use Rattle.std.proofs.lemmas.Grind.{common_steps}
use Rattle.std.proofs.Common.{◌≡◌, ◌≤◌, ◌<◌, ◌+◌, ◌⊎◌, ℕ, [], ◌∷◌, zero, suc, List, take, Bool, ap, subst, inl, inr}
use Rattle.fv_base.proofs.Laws.{arith, get_or, IsTrue, cases_lt, up_to_8}
use Rattle.fv_placement.specs.Words.{HasNoRoom, IsMisaligned, TopMisaligned, IsFirstPlacement, Lawful, Placement, IsStartInVolume, StartsFollow}
use Rattle.fv_placement.specs.declared.first_placement.PlacementItem.{PlacementItem}

abbrev HoldsOrNot : Type 0 → Type 0
HoldsOrNot P = P ⊎ (P → ⊥)

both : {P Q : Type 0} → HoldsOrNot P → HoldsOrNot Q → HoldsOrNot (P × Q)
both first second = grind (arith, common_steps)

either : {P Q : Type 0} → HoldsOrNot P → HoldsOrNot Q → HoldsOrNot (P ⊎ Q)
either first second = grind (arith, common_steps)

not_so : {P : Type 0} → HoldsOrNot P → HoldsOrNot (P → ⊥)
not_so decided = grind (arith, common_steps)

le_dec : (a b : ℕ) → HoldsOrNot (a ≤ b)
le_dec a b = grind (arith, common_steps, cases_lt)

eq_dec : (a b : ℕ) → HoldsOrNot (a ≡ b)
eq_dec a b = grind (arith, common_steps, cases_lt)

true_dec : (t : Bool) → HoldsOrNot (IsTrue t)
true_dec t = grind (arith, common_steps)

if_dec : {P Q : Type 0} → HoldsOrNot P → HoldsOrNot Q → HoldsOrNot (P → Q)
if_dec first second = grind (arith, common_steps)

-- ---- one start

lawful_dec : (e : ℕ) (f : PlacementItem) (s : ℕ) → HoldsOrNot (Lawful e f s)
lawful_dec e f s = grind (arith, common_steps, both, eq_dec, either, le_dec)

stands_dec : (total e : ℕ) (f : PlacementItem) (s : ℕ) → HoldsOrNot (IsStartInVolume total e f s)
stands_dec total e f s =
    go (both (lawful_dec e f s) (both (le_dec (s + f.size) total) (if_dec (true_dec f.top) (eq_dec (s + f.size) total))))
  where
    go : HoldsOrNot (Lawful e f s × ((s + f.size ≤ total) × (IsTrue f.top → s + f.size ≡ total))) → HoldsOrNot (IsStartInVolume total e f s)
    go (inl (a, (b, c))) = inl (record { lawful = a; within = b; at_end = c })
    go (inr nay) = inr (λ h. nay (h.lawful, (h.within, h.at_end)))

-- P is true of a least number, or of no number below n
abbrev Least : (ℕ → Type 0) → ℕ → Type 0
Least P n = ((s : ℕ) × P s × ((t : ℕ) → t < s → P t → ⊥)) ⊎ ((s : ℕ) → s < n → P s → ⊥)

least_of : (P : ℕ → Type 0) → ((s : ℕ) → HoldsOrNot (P s)) → (n : ℕ) → Least P n
least_of P dec zero = inr (λ s less p. omega (arith, less))
least_of P dec (suc n) = next (least_of P dec n) (dec n) where
  next : Least P n → HoldsOrNot (P n) → Least P (suc n)
  next (inl found) d = inl found
  next (inr none) (inl p) = inl (n, p, none)
  next (inr none) (inr nay) = inr last where
    last : (s : ℕ) → s < suc n → P s → ⊥
    last s less p = elim (cases_lt s n) [
      | inl below ↦ none s below p
      | inr above ↦ nay (subst P (omega (arith, less, above)) p)
    ]

-- ---- the starts of files

-- starts that follow an edge, each the least with the same starts before it
abbrev FirstFollow : ℕ → ℕ → List PlacementItem → List ℕ → Type 0
FirstFollow total e fs starts = StartsFollow total e fs starts
    × ((others : List ℕ) (i : ℕ) → StartsFollow total e fs others → take i others ≡ take i starts → get_or starts i 0 ≤ get_or others i 0)

abbrev Follows : ℕ → List PlacementItem → ℕ → Type 0
Follows total fs e = ((starts : List ℕ) × FirstFollow total e fs starts) ⊎ ((starts : List ℕ) → StartsFollow total e fs starts → ⊥)

abbrev first_in : List ℕ → ℕ
first_in [] = 0
first_in (x ∷ xs) = x

abbrev tail_in : List ℕ → List ℕ
tail_in [] = []
tail_in (x ∷ xs) = xs

module _ (total : ℕ) (f : PlacementItem) (fs : List PlacementItem) (rest : (e : ℕ) → Follows total fs e) (e : ℕ) where
  abbrev StartsAt : ℕ → Type 0
  StartsAt s = IsStartInVolume total e f s × ((ss : List ℕ) × StartsFollow total (up_to_8 (s + f.size)) fs ss)

  rest_dec : (s : ℕ) → HoldsOrNot ((ss : List ℕ) × StartsFollow total (up_to_8 (s + f.size)) fs ss)
  rest_dec s = go (rest (up_to_8 (s + f.size))) where
    go : Follows total fs (up_to_8 (s + f.size)) → HoldsOrNot ((ss : List ℕ) × StartsFollow total (up_to_8 (s + f.size)) fs ss)
    go (inl (ss, first)) = inl (ss, first.0)
    go (inr none) = inr (λ h. none h.0 h.1)

  begins_dec : (s : ℕ) → HoldsOrNot (StartsAt s)
  begins_dec s = both (stands_dec total e f s) (rest_dec s)

  first_least : (s : ℕ) (starts : List ℕ) → ((t : ℕ) → t < s → StartsAt t → ⊥) → FirstFollow total (up_to_8 (s + f.size)) fs starts
      → (others : List ℕ) (i : ℕ) → StartsFollow total e (f ∷ fs) others → take i others ≡ take i (s ∷ starts)
      → get_or (s ∷ starts) i 0 ≤ get_or others i 0
  first_least s starts least first [] i follow same = absurd follow
  first_least s starts least first (t ∷ ts) zero follow same = elim (cases_lt t s) [
    | inl less ↦ absurd (least t less (follow.0, (ts, follow.1)))
    | inr at_most ↦ at_most
  ]
  first_least s starts least first (t ∷ ts) (suc i) follow same =
      first.1 ts i (subst (λ (k : ℕ). StartsFollow total (up_to_8 (k + f.size)) fs ts) (ap first_in same) follow.1) (ap tail_in same)

  follows_next : Follows total (f ∷ fs) e
  follows_next = go (least_of StartsAt begins_dec (suc total)) where
    none_at : ((s : ℕ) → s < suc total → StartsAt s → ⊥) → (starts : List ℕ) → StartsFollow total e (f ∷ fs) starts → ⊥
    none_at none [] follow = follow
    none_at none (s ∷ ss) follow = none s (omega (arith, follow.0.within)) (follow.0, (ss, follow.1))

    with_rest : (s : ℕ) → StartsAt s → ((t : ℕ) → t < s → StartsAt t → ⊥) → Follows total fs (up_to_8 (s + f.size)) → Follows total (f ∷ fs) e
    with_rest s here least (inl (starts, first)) = inl (s ∷ starts, ((here.0, first.0), first_least s starts least first))
    with_rest s here least (inr none) = absurd (none here.1.0 here.1.1)

    go : Least StartsAt (suc total) → Follows total (f ∷ fs) e
    go (inl (s, here, least)) = with_rest s here least (rest (up_to_8 (s + f.size)))
    go (inr none) = inr (none_at none)

first_none : (total e : ℕ) (others : List ℕ) (i : ℕ) → StartsFollow total e [] others → get_or {A = ℕ} [] i 0 ≤ get_or others i 0
first_none total e others i follow = grind (arith, common_steps)

follows : (total : ℕ) (fs : List PlacementItem) (e : ℕ) → Follows total fs e
follows total [] e = inl ([], (tt, λ others i follow same. first_none total e others i follow))
follows total (f ∷ fs) e = follows_next total f fs (follows total fs) e

-- files have a first placement, or no placement
placed_or_none : (total first : ℕ) (fs : List PlacementItem) → ((starts : List ℕ) × IsFirstPlacement total first fs starts)
    ⊎ ((starts : List ℕ) → Placement total first fs starts → ⊥)
placed_or_none total first fs = go (le_dec first total) (follows total fs first) where
  go : HoldsOrNot (first ≤ total) → Follows total fs first → ((starts : List ℕ) × IsFirstPlacement total first fs starts)
      ⊎ ((starts : List ℕ) → Placement total first fs starts → ⊥)
  go (inl room) (inl (starts, is)) = inl (
    starts,
    record {
      placement = record { room = room; follow = is.0 };
      least = λ others i p same. is.1 others i p.follow same;
    },
  )
  go (inl room) (inr none) = inr (λ starts p. none starts p.follow)
  go (inr full) h = inr (λ starts p. full p.room)

-- ---- the volume top file

off_dec : (total : ℕ) (f : PlacementItem) → HoldsOrNot (IsMisaligned total f)
off_dec total f = grind (arith, common_steps, either, not_so, eq_dec)

top_dec : (total : ℕ) (fs : List PlacementItem) → HoldsOrNot (TopMisaligned total fs)
top_dec total [] = inr (λ h. h)
top_dec total (f ∷ fs) = either (both (true_dec f.top) (off_dec total f)) (top_dec total fs)

-- files have a first placement, or the volume top file cannot begin at its only possible start, or there is no room
pub placed_or_not : (total first : ℕ) (fs : List PlacementItem) → ((starts : List ℕ) × IsFirstPlacement total first fs starts)
    ⊎ (TopMisaligned total fs ⊎ HasNoRoom total first fs)
placed_or_not total first fs = go (top_dec total fs) (placed_or_none total first fs) where
  go : HoldsOrNot (TopMisaligned total fs)
      → ((starts : List ℕ) × IsFirstPlacement total first fs starts) ⊎ ((starts : List ℕ) → Placement total first fs starts → ⊥)
      → ((starts : List ℕ) × IsFirstPlacement total first fs starts) ⊎ (TopMisaligned total fs ⊎ HasNoRoom total first fs)
  go (inl off) h = inr (inl off)
  go (inr on) (inl placed) = inl placed
  go (inr on) (inr none) = inr (inr (record { top_is_aligned = on; none = none }))
