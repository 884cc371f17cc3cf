-- Files have at most one first placement, which is found start by start. The steps:
-- 1. If each start is the least start that begins a placement of its file and the files after it, the starts are the
--    first placement.
-- 2. If the least starts are a placement, they meet this condition.
-- 3. Two first placements are equal.
-- 4. If each file in turn is placed at its first start, the starts meet this condition.
-- 5. If a volume top file cannot begin at its only possible start, there is no placement.
use Rattle.std.proofs.lemmas.Grind.{common_steps}
use Rattle.std.proofs.Common.{◌≡◌, ℕ, ◌+◌, ◌%◌, ◌<◌, ◌≤◌, [], ◌∷◌, ◌++◌, inl, inr, refl, sym, ◌∙◌, ap, subst, arith, List, Bool, true, false}
use Rattle.std.proofs.Common.{append_assoc, append-nil, length, get_or, take, drop, zero, suc, add-one, IsTrue, MatchBool, take_all}
use Rattle.fv_base.proofs.Laws.{up_to_8, drop_more, drop_all, take_more}
use Rattle.fv_placement.specs.Words.{Lawful, StartsFollow, Placement, IsFirstPlacement, IsLeast, IsMisaligned, TopMisaligned}
use Rattle.fv_placement.specs.declared.first_placement.PlacementItem.{PlacementItem}
use Rattle.fv_placement.specs.declared.reach.Reach.{Reach}
use Rattle.fv_placement.specs.inner.Reaches.{IsBound, IsFirstStart}
use Rattle.fv_placement.proofs.ReachLaws.{begins, stands}

-- ---- 1. start by start

abbrev Firsts : ℕ → ℕ → List PlacementItem → List ℕ → Type 0
Firsts total e [] [] = Unit {0}
Firsts total e [] (s ∷ ss) = ⊥
Firsts total e (f ∷ fs) [] = ⊥
Firsts total e (f ∷ fs) (s ∷ ss) =
    ((t : ℕ) (ts : List ℕ) → StartsFollow total e (f ∷ fs) (t ∷ ts) → s ≤ t) × Firsts total (up_to_8 (s + f.size)) fs ss

same_head : (s t : ℕ) (ss ts : List ℕ) → t ∷ ts ≡ s ∷ ss → t ≡ s
same_head s t ss ts e = cc

same_tail : (s t : ℕ) (ss ts : List ℕ) → t ∷ ts ≡ s ∷ ss → ts ≡ ss
same_tail s t ss ts e = cc

least_none : (i n : ℕ) → get_or [] i 0 ≤ n
least_none i n = omega arith

firsts_least : (total e : ℕ) (fs : List PlacementItem) (ss others : List ℕ) (i : ℕ) → Firsts total e fs ss → StartsFollow total e fs others
    → take i others ≡ take i ss → get_or ss i 0 ≤ get_or others i 0
firsts_least total e [] [] others i h p q = least_none i (get_or others i 0)
firsts_least total e [] (s ∷ ss) others i h p q = absurd h
firsts_least total e (f ∷ fs) [] others i h p q = absurd h
firsts_least total e (f ∷ fs) (s ∷ ss) [] i h p q = absurd p
firsts_least total e (f ∷ fs) (s ∷ ss) (t ∷ ts) zero h p q = h.0 t ts p
firsts_least total e (f ∷ fs) (s ∷ ss) (t ∷ ts) (suc i) h p q =
    let same = same_head s t (take i ss) (take i ts) q in
    firsts_least total (up_to_8 (s + f.size)) fs ss ts i h.1 (subst (λ n. StartsFollow total (up_to_8 (n + f.size)) fs ts) same p.1)
    (same_tail s t (take i ss) (take i ts) q)

first_from : (total first : ℕ) (fs : List PlacementItem) (ss : List ℕ) → Placement total first fs ss → Firsts total first fs ss
    → IsFirstPlacement total first fs ss
first_from total first fs ss p h = record { placement = p; least = λ others i q e. firsts_least total first fs ss others i h q.follow e }

-- ---- 2. the least starts

least_firsts : (total e : ℕ) (fs : List PlacementItem) (ss : List ℕ) → IsLeast total e fs ss → StartsFollow total e fs ss
    → Firsts total e fs ss
least_firsts total e [] [] l p = tt
least_firsts total e [] (s ∷ ss) l p = absurd l
least_firsts total e (f ∷ fs) [] l p = absurd l
least_firsts total e (f ∷ fs) (s ∷ ss) l p =
    (λ t ts q. by_top f.top t l.0 q.0.at_end q.0.lawful, least_firsts total (up_to_8 (s + f.size)) fs ss l.1 p.1)
  where
    by_top : (b : Bool) (t : ℕ) → MatchBool b (s + f.size ≡ total) (Lawful e f s × ((u : ℕ) → Lawful e f u → s ≤ u))
        → (IsTrue b → t + f.size ≡ total) → Lawful e f t → s ≤ t
    by_top true t m a w = let z = a refl in omega arith
    by_top false t m a w = m.1 t w

pub agree : (total first : ℕ) (fs : List PlacementItem) (ss : List ℕ) → IsLeast total first fs ss → Placement total first fs ss
    → IsFirstPlacement total first fs ss
agree total first fs ss l p = first_from total first fs ss p (least_firsts total first fs ss l p.follow)

-- ---- 3. there is only one

first_same : (total first : ℕ) (fs : List PlacementItem) (ss ts : List ℕ) → IsFirstPlacement total first fs ss
    → IsFirstPlacement total first fs ts → (i : ℕ) → take i ss ≡ take i ts → get_or ss i 0 ≡ get_or ts i 0
first_same total first fs ss ts p q i e = grind (arith, common_steps)

-- a placement has one start for each file
pub follow_length : (total e : ℕ) (fs : List PlacementItem) (ss : List ℕ) → StartsFollow total e fs ss → length ss ≡ length fs
follow_length total e [] [] h = refl
follow_length total e [] (s ∷ ss) h = absurd h
follow_length total e (f ∷ fs) [] h = absurd h
follow_length total e (f ∷ fs) (s ∷ ss) h = ap suc (follow_length total (up_to_8 (s + f.size)) fs ss h.1)

fronts_same : (total first : ℕ) (fs : List PlacementItem) (ss ts : List ℕ) → IsFirstPlacement total first fs ss
    → IsFirstPlacement total first fs ts
    → length ss ≡ length ts → (i : ℕ) → i ≤ length ss → take i ss ≡ take i ts
fronts_same total first fs ss ts p q same zero l = refl
fronts_same total first fs ss ts p q same (suc i) l =
    let before = fronts_same total first fs ss ts p q same i (omega (arith, l)) in
    let here = first_same total first fs ss ts p q i before in
    ap (λ (n : ℕ). take n ss) (sym (add-one i)) ∙ take_more ss i 0 (omega (arith, l))
    ∙ ap (λ (xs : List ℕ). xs ++ (get_or ss i 0 ∷ [])) before ∙ ap (λ (n : ℕ). take i ts ++ (n ∷ [])) here
    ∙ sym (take_more ts i 0 (omega (arith, l, same))) ∙ ap (λ (n : ℕ). take n ts) (add-one i)

pub starts_one : (total first : ℕ) (fs : List PlacementItem) (ss ts : List ℕ) → IsFirstPlacement total first fs ss
    → IsFirstPlacement total first fs ts → ss ≡ ts
starts_one total first fs ss ts p q =
    let n = follow_length total first fs ss p.placement.follow in
    let k = follow_length total first fs ts q.placement.follow in
    sym (take_all (length ss) ss (omega arith)) ∙ fronts_same total first fs ss ts p q (n ∙ sym k) (length ss) (omega arith)
    ∙ take_all (length ss) ts (omega (arith, n, k))

-- ---- 4. file by file

-- the files before `left` begin at the starts `done`, and e is the edge after these files. Starts of the files in
-- `left` that follow this edge complete the starts of all files, and if `Firsts` is true of the added starts, it is
-- true of all starts
pub record PlacedUpto (total first : ℕ) (fs : List PlacementItem) (e : ℕ) (left : List PlacementItem) (done : List ℕ) : Type 0 where
  pub follow : (rest : List ℕ) → StartsFollow total e left rest → StartsFollow total first fs (done ++ rest)
  pub firsts : (rest : List ℕ) → Firsts total e left rest → Firsts total first fs (done ++ rest)

pub placed_at : (total first : ℕ) (fs : List PlacementItem) (e i : ℕ) (d : PlacementItem) (r : Reach) (done : List ℕ) (s : ℕ) → i < length fs
    → total % 8 ≡ 0 → IsBound total (drop (i + 1) fs) r → PlacedUpto total first fs e (drop i fs) done
    → IsFirstStart total e (get_or fs i d) r s
    → PlacedUpto total first fs (up_to_8 (s + (get_or fs i d).size)) (drop (i + 1) fs) (done ++ s ∷ [])
placed_at total first fs e i d r done s l h w o v = more (subst (λ xs. PlacedUpto total first fs e xs done) (drop_more fs i d l) o)
  where
    f : PlacementItem
    f = get_or fs i d

    more : PlacedUpto total first fs e (f ∷ drop (i + 1) fs) done → PlacedUpto total first fs (up_to_8 (s + f.size)) (drop (i + 1) fs) (done ++ s ∷ [])
    more o = record {
      follow = λ rest p. subst (λ xs. StartsFollow total first fs xs) (sym (append_assoc done (s ∷ []) rest))
          (o.follow (s ∷ rest) (stands total e f r s w.greatest v.lawful v.usable, p));
      firsts = λ rest p. subst (λ xs. Firsts total first fs xs) (sym (append_assoc done (s ∷ []) rest))
          (o.firsts (s ∷ rest) (λ t ts q. v.least t q.0.lawful (begins total e f (drop (i + 1) fs) r t ts h w q), p));
    }

pub placed_end : (total first : ℕ) (fs : List PlacementItem) (e i : ℕ) (done : List ℕ) → length fs ≤ i → first ≤ total
    → PlacedUpto total first fs e (drop i fs) done → IsFirstPlacement total first fs done
placed_end total first fs e i done l room o =
    let end = subst (λ xs. PlacedUpto total first fs e xs done) (drop_all i fs l) o in
    first_from total first fs done
    (record { room = room; follow = subst (λ xs. StartsFollow total first fs xs) (append-nil done) (end.follow [] tt) })
    (subst (λ xs. Firsts total first fs xs) (append-nil done) (end.firsts [] tt))

-- ---- 5. no placement

off_none : (total e : ℕ) (f : PlacementItem) (s : ℕ) → s + f.size ≡ total → (s + f.header) % f.alignment ≡ 0 → s % 8 ≡ 0 → IsMisaligned total f → ⊥
off_none total e f s at aligned eighth off = grind (arith, common_steps)

-- files cannot be placed if the volume top file cannot begin at its only possible start
pub top_none : (total e : ℕ) (fs : List PlacementItem) (ss : List ℕ) → TopMisaligned total fs → StartsFollow total e fs ss → ⊥
top_none total e [] ss off follow = absurd off
top_none total e (f ∷ fs) [] off follow = absurd follow
top_none total e (f ∷ fs) (s ∷ ss) (inl (top, off)) follow =
    off_none total e f s (follow.0.at_end top) follow.0.lawful.aligned follow.0.lawful.eighth off
top_none total e (f ∷ fs) (s ∷ ss) (inr off) follow = top_none total (up_to_8 (s + f.size)) fs ss off follow.1
