-- The reach of a file and the files after it describes the edges after which they can be placed. It is found from the
-- last file to the first. The steps:
-- 1. A usable edge is at most the greatest usable edge: it is this edge, 8 or 16 bytes below it, or at least 24 bytes
--    below it.
-- 2. A placement begins with a usable start, and each lawful start that is usable begins a placement.
-- 3. So the greatest usable start, and whether the starts 8 and 16 bytes below it are usable, give the reach of a file
--    and the files after it.
-- 4. Backwards: if a file has no usable start, the files cannot be placed.
-- 5. Forwards: if the files can be placed, there is a usable start.
use Rattle.std.proofs.Common.{◌≡◌, ℕ, ◌+◌, ◌-◌, ◌%◌, ◌<◌, ◌≤◌, ◌⊎◌, [], ◌∷◌, inl, inr, refl, sym, ◌∙◌, ap, subst, arith, List, length, get_or, drop}
use Rattle.fv_base.proofs.Laws.{zero, suc, slice_set, get_or-set_same, get_or-set_other, common_steps, up_to_8, cases_lt, drop_more}
use Rattle.fv_placement.specs.Words.{Lawful, IsStartInVolume, StartsFollow}
use Rattle.fv_placement.specs.declared.first_placement.PlacementItem.{PlacementItem}
use Rattle.fv_placement.specs.declared.reach.Reach.{Reach}
use Rattle.fv_placement.specs.inner.Reaches.{AreReaches, CanPlace, IsBound, IsGreatest, IsReach, IsUsableEdge, IsUsableStart}
use Rattle.fv_placement.proofs.MultipleLaws.{edge_eighth, edge_within, edge_above}

-- ---- 1. edges

-- the smaller of two multiples of 8 is at least 24 below the greater, or equal to it, or 8 or 16 below it
far_enough : (e t : ℕ) → e % 8 ≡ 0 → t % 8 ≡ 0 → e ≤ t → ((e + 24 ≤ t) ⊎ (e ≡ t)) ⊎ ((e + 8 ≡ t) ⊎ (e + 16 ≡ t))
far_enough e t p q l = grind (arith, common_steps, cases_lt)

-- a usable edge is at most the greatest usable edge
pub usable_most : (r : Reach) (e : ℕ) → IsUsableEdge r e → e ≤ r.greatest
usable_most r e usable = grind (arith, common_steps)

-- ---- 2. the start with which a placement begins

-- a lawful start that is usable is within the volume
pub stands : (total e : ℕ) (f : PlacementItem) (r : Reach) (s : ℕ) → r.greatest ≤ total → Lawful e f s → IsUsableStart total f r s
    → IsStartInVolume total e f s
stands total e f r s g l v = grind (arith, common_steps, edge_above, usable_most)

placed_by : (total e : ℕ) (f : PlacementItem) (fs : List PlacementItem) (r : Reach) (s : ℕ) → IsReach total fs r → Lawful e f s
    → IsUsableStart total f r s
    → CanPlace total e (f ∷ fs)
placed_by total e f fs r s h l v =
    let c = h.sound (up_to_8 (s + f.size)) (edge_eighth (s + f.size)) v.edge in
    let inside = stands total e f r s h.bound.greatest l v in
    record { room = grind arith; starts = s ∷ c.starts; follow = (inside, c.follow) }

pub begins : (total e : ℕ) (f : PlacementItem) (fs : List PlacementItem) (r : Reach) (s : ℕ) (ss : List ℕ) → total % 8 ≡ 0 → IsBound total fs r
    → StartsFollow total e (f ∷ fs) (s ∷ ss) → IsUsableStart total f r s
begins total e f fs r s ss h w p = record {
  eighth = p.0.lawful.eighth;
  aligned = p.0.lawful.aligned;
  at_end = p.0.at_end;
  edge = w.complete (up_to_8 (s + f.size)) (edge_eighth (s + f.size))
      (record { room = edge_within (s + f.size) total h p.0.within; starts = ss; follow = p.1 });
}

begins_some : (total e : ℕ) (f : PlacementItem) (fs : List PlacementItem) (r : Reach) → total % 8 ≡ 0 → IsBound total fs r
    → CanPlace total e (f ∷ fs)
    → (s : ℕ) × Lawful e f s × IsUsableStart total f r s
begins_some total e f fs r h w p = from p.starts p.follow
  where
    from : (ss : List ℕ) → StartsFollow total e (f ∷ fs) ss → (s : ℕ) × Lawful e f s × IsUsableStart total f r s
    from [] q = absurd q
    from (s ∷ ss) q = (s, q.0.lawful, begins total e f fs r s ss h w q)

-- ---- 3. the reach of a file and those after it

reach_more : (total : ℕ) (f : PlacementItem) (fs : List PlacementItem) (after r : Reach) → total % 8 ≡ 0 → IsReach total fs after
    → IsGreatest total f after r → IsReach total (f ∷ fs) r
reach_more total f fs after r h w g = record {
  bound = record {
    greatest = omega (arith, usable_most after (up_to_8 (r.greatest + f.size)) g.usable.edge, w.bound.greatest);
    complete = λ e p c. let b = begins_some total e f fs after h w.bound c in complete e p b.0 b.1 b.2;
  };
  eighth = g.usable.eighth;
  sound = sound;
}
  where
    at : (e : ℕ) → IsUsableStart total f after e → CanPlace total e (f ∷ fs)
    at e v = placed_by total e f fs after e w (record { eighth = v.eighth; gap = inl refl; aligned = v.aligned }) v

    sound : (e : ℕ) → e % 8 ≡ 0 → IsUsableEdge r e → CanPlace total e (f ∷ fs)
    sound e p (inl (inl a)) =
        placed_by total e f fs after r.greatest w (record { eighth = g.usable.eighth; gap = inr a; aligned = g.usable.aligned }) g.usable
    sound e p (inl (inr a)) = at e (subst (λ n. IsUsableStart total f after n) (sym a) g.usable)
    sound e p (inr (inl a)) = at e ((g.near e a.0).0 a.1)
    sound e p (inr (inr a)) = at e ((g.far e a.0).0 a.1)

    at_edge : (e : ℕ) → IsUsableStart total f after e → IsUsableEdge r e
    at_edge e v = elim (far_enough e r.greatest v.eighth g.usable.eighth (g.most e v)) [
      | inl a ↦ inl a
      | inr b ↦ elim b [ inl c ↦ inr (inl (c, (g.near e c).1 v)) | inr c ↦ inr (inr (c, (g.far e c).1 v)) ]
    ]

    complete : (e : ℕ) → e % 8 ≡ 0 → (s : ℕ) → Lawful e f s → IsUsableStart total f after s → IsUsableEdge r e
    complete e p s l v = elim l.gap [
      | inl same ↦ at_edge e (subst (λ n. IsUsableStart total f after n) same v)
      | inr a ↦ inl (inl (omega (arith, g.most s v)))
    ]

-- ---- 4. backwards: file n - 1, with the reach of the files after it

drop_step : (fs : List PlacementItem) (n : ℕ) (d : PlacementItem) → 0 < n → n ≤ length fs → drop (n - 1) fs ≡ get_or fs (n - 1) d ∷ drop n fs
drop_step fs n d p l = grind (arith, common_steps, drop_more)

pub reach_back : (total : ℕ) (fs : List PlacementItem) (n : ℕ) (d : PlacementItem) (after r : Reach) → 0 < n → n ≤ length fs → total % 8 ≡ 0
    → IsReach total (drop n fs) after → IsGreatest total (get_or fs (n - 1) d) after r → IsReach total (drop (n - 1) fs) r
reach_back total fs n d after r p l h w g =
    subst (λ xs. IsReach total xs r) (sym (drop_step fs n d p l)) (reach_more total (get_or fs (n - 1) d) (drop n fs) after r h w g)

-- with the reach of file n - 1, the list has the reaches of this file and of the files after it
pub kept_set : (total : ℕ) (fs : List PlacementItem) (reaches : List Reach) (n : ℕ) (r : Reach) → 0 < n → n ≤ length fs
    → length reaches ≡ length fs → IsReach total (drop n fs) r
    → ((i : ℕ) (d : Reach) → n ≤ i → i < length fs → IsReach total (drop (i + 1) fs) (get_or reaches i d))
    → (i : ℕ) (d : Reach) → n - 1 ≤ i → i < length fs → IsReach total (drop (i + 1) fs) (get_or (slice_set reaches (n - 1) r) i d)
kept_set total fs reaches n r p l len here each i d low lt = elim (cases_lt i n) [
  | inl less ↦
      let at : i ≡ n - 1 = omega arith in
      let next : n ≡ i + 1 = omega arith in
      subst (λ x. IsReach total (drop (i + 1) fs) x)
      (sym (ap (λ k. get_or (slice_set reaches (n - 1) r) k d) at ∙ get_or-set_same reaches (n - 1) r d (omega arith)))
      (subst (λ k. IsReach total (drop k fs) r) next here)
  | inr more ↦
      subst (λ x. IsReach total (drop (i + 1) fs) x) (sym (get_or-set_other reaches (n - 1) i r d (λ e. omega arith))) (each i d more lt)
]

-- if the files can be placed, the files from each file on can be placed
rest_can : (total e : ℕ) (fs : List PlacementItem) (i : ℕ) → i ≤ length fs → total % 8 ≡ 0 → CanPlace total e fs
    → (x : ℕ) × CanPlace total x (drop i fs)
rest_can total e fs zero l h c = (e, c)
rest_can total e [] (suc i) l h c = absurd (omega arith)
rest_can total e (f ∷ fs) (suc i) l h c = let b = tail c.starts c.follow in rest_can total b.0 fs i (omega arith) h b.1
  where
    tail : (ss : List ℕ) → StartsFollow total e (f ∷ fs) ss → (x : ℕ) × CanPlace total x fs
    tail [] q = absurd q
    tail (s ∷ ss) q =
        (up_to_8 (s + f.size), record { room = edge_within (s + f.size) total h q.0.within; starts = ss; follow = q.1 })

pub none_back : (total : ℕ) (fs : List PlacementItem) (n : ℕ) (d : PlacementItem) (after : Reach) → 0 < n → n ≤ length fs → total % 8 ≡ 0
    → IsReach total (drop n fs) after → ((s : ℕ) → IsUsableStart total (get_or fs (n - 1) d) after s → ⊥) → (e : ℕ) → CanPlace total e fs → ⊥
none_back total fs n d after p l h w none e c =
    let b = rest_can total e fs (n - 1) (omega arith) h c in
    let s =
    begins_some total b.0 (get_or fs (n - 1) d) (drop n fs) after h w.bound (subst (λ xs. CanPlace total b.0 xs) (drop_step fs n d p l) b.1) in
    none s.0 s.2

-- ---- 5. forwards: file i, with the reach of the files after it

pub some_here : (total e : ℕ) (fs : List PlacementItem) (i : ℕ) (d : PlacementItem) (after : Reach) → i < length fs → total % 8 ≡ 0
    → IsReach total (drop (i + 1) fs) after → CanPlace total e (drop i fs)
    → ((s : ℕ) → Lawful e (get_or fs i d) s → IsUsableStart total (get_or fs i d) after s → ⊥) → ⊥
some_here total e fs i d after l h w c none =
    let s = begins_some total e (get_or fs i d) (drop (i + 1) fs) after h w.bound (subst (λ xs. CanPlace total e xs) (drop_more fs i d l) c) in
    none s.0 s.1 s.2

-- the reach of the files after file i is the next reach in the list or, after the last file, the reach of no files
pub bound_at : (total : ℕ) (fs : List PlacementItem) (reaches : List Reach) (i : ℕ) (r d : Reach) → AreReaches (IsBound total) fs reaches
    → (i < length reaches → r ≡ get_or reaches i d) → (length reaches ≤ i → (xs : List PlacementItem) → IsBound total xs r)
    → IsBound total (drop (i + 1) fs) r
bound_at total fs reaches i r d each known unknown = elim (cases_lt i (length reaches)) [
  | inl less ↦ subst (λ x. IsBound total (drop (i + 1) fs) x) (sym (known less)) (each i d less)
  | inr more ↦ unknown more (drop (i + 1) fs)
]

pub reach_at : (total : ℕ) (fs : List PlacementItem) (reaches : List Reach) (i : ℕ) (r d : Reach) → AreReaches (IsReach total) fs reaches
    → i < length reaches → r ≡ get_or reaches i d → IsReach total (drop (i + 1) fs) r
reach_at total fs reaches i r d each less known = grind (arith, common_steps)
