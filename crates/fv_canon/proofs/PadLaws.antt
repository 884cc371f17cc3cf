-- A gap is split into pads by the rule `PadsRule` (`pads_rule`). A fact about each pad gives the fact about each gap
-- (`gap_has`).
use Rattle.std.proofs.Common.{◌≡◌, ◌≤◌, ◌<◌, ◌-◌, ◌%◌, ℕ, [], ◌++◌, if◌then◌else◌, inl, inr, zero, suc, Bool, List, refl, sym, ap, ◌∙◌, arith}
use Rattle.fv_base.proofs.Laws.{common_steps, nat_le, le-leb, ne_eqb, cases_lt, if_true, if_false, not_at_most}
use Rattle.fv_base.specs.declared.flash.Polarity.{Polarity}
use Rattle.fv_canon.specs.Words.{pad_bytes, pads, long_pad, gap_bytes, PadsRule}

pub gap_none : (p : Polarity) (gap : ℕ) → gap ≡ 0 → gap_bytes p gap ≡ []
unfolding gap_bytes
gap_none p zero e = refl
gap_none p (suc n) e = absurd (omega (arith, e))

gap_some : (p : Polarity) (gap : ℕ) → 24 ≤ gap → gap_bytes p gap ≡ pads p gap gap
unfolding gap_bytes
gap_some p gap l = ap (λ (b : Bool). if b then [] else pads p gap gap) (ne_eqb gap 0 (λ z. omega (arith, l, z)))

-- a gap of at most 0xfffff8 bytes is one pad; a longer gap begins with a pad of `long_pad` bytes (`pads_more`)
pads_fit : (p : Polarity) (n gap : ℕ) → gap ≤ 0xfffff8 → pads p n gap ≡ pad_bytes p gap
pads_fit p zero gap l = refl
pads_fit p (suc n) gap l = if_true (nat_le gap 0xfffff8) _ _ (le-leb gap 0xfffff8 l)

pads_more : (p : Polarity) (n gap : ℕ) → 0xfffff8 < gap → pads p (suc n) gap ≡ pad_bytes p long_pad ++ pads p n (gap - long_pad)
pads_more p n gap l = if_false (nat_le gap 0xfffff8) _ _ (not_at_most gap 0xfffff8 l)

-- `pads p n gap` is the same for every n that is at least the number of the gap's bytes
pads_enough : (p : Polarity) (n k gap : ℕ) → gap ≤ n → gap ≤ k → pads p n gap ≡ pads p k gap
pads_enough p zero k gap l m = sym (pads_fit p k gap (omega (arith, l)))
pads_enough p (suc n) zero gap l m = pads_fit p (suc n) gap (omega (arith, m))
pads_enough p (suc n) (suc k) gap l m = grind (arith, common_steps, pads_enough p n k (gap - long_pad)) steps 400000

pub pads_rule : PadsRule
pads_rule p gap least eighth = (
  λ fits. gap_some p gap least ∙ pads_fit p gap gap fits,
  λ past. (
    gap_some p gap least ∙ pads_enough p gap (suc gap) gap (omega arith) (omega arith) ∙ pads_more p gap gap past
        ∙ ap (λ xs. pad_bytes p long_pad ++ xs) (pads_enough p gap (gap - long_pad) (gap - long_pad) (omega arith) (omega arith)
        ∙ sym (gap_some p (gap - long_pad) (omega (arith, past, eighth)))),
    omega (arith, past, eighth),
  ),
)

-- if P holds of one pad, and of a pad of `long_pad` bytes followed by the pads of a gap of which P holds, then P holds
-- of every gap that is a multiple of 8 and has at least 24 bytes
module _ (p : Polarity) (P : ℕ → List ℕ → Type 0)
    (one : (gap : ℕ) → 24 ≤ gap → gap ≤ 0xfffff8 → gap % 8 ≡ 0 → P gap (pad_bytes p gap))
    (more : (gap : ℕ) (xs : List ℕ) → 0xfffff8 < gap → P (gap - long_pad) xs → P gap (pad_bytes p long_pad ++ xs)) where
  by_steps : (n gap : ℕ) → gap ≤ n → 24 ≤ gap → gap % 8 ≡ 0 → P gap (pads p n gap)
  by_steps zero gap few least eighth = absurd (omega (arith, few, least))
  by_steps (suc n) gap few least eighth = elim (cases_lt 0xfffff8 gap) [
    | inl past ↦
        rw (pads_more p n gap past) (more gap (pads p n (gap - long_pad)) past
        (by_steps n (gap - long_pad) (omega (arith, few, past)) (omega (arith, past)) (omega (arith, eighth, past))))
    | inr fits ↦ rw (pads_fit p (suc n) gap fits) (one gap least fits eighth)
  ]

  pub gap_has : (gap : ℕ) → 24 ≤ gap → gap % 8 ≡ 0 → P gap (gap_bytes p gap)
  gap_has gap least eighth = rw (gap_some p gap least) (by_steps gap gap (omega arith) least eighth)
