use Rattle.std.proofs.lemmas.Grind.{common_steps}
use Rattle.std.proofs.Common.{◌+◌, ◌<◌, ◌≤◌, ℕ, List, length, drop, get_or, subst, sym, inl, IsTrue, arith}
use Rattle.fv_base.proofs.Laws.{drop_more, drop_all}
use Rattle.fv_placement.specs.Words.{TopMisaligned, IsMisaligned}
use Rattle.fv_placement.specs.declared.first_placement.PlacementItem.{PlacementItem}
use Rattle.fv_placement.proofs.UsableStartLaws.{not_true}
use Rattle.fv_placement.proofs.first_placement.is_top_misaligned.Goals as goal

-- a volume top file that is misaligned is found, and any other file is passed over
found : (total : ℕ) (fs : List PlacementItem) (i : ℕ) (d : PlacementItem) → i < length fs → (TopMisaligned total (drop i fs) → TopMisaligned total fs)
    → IsTrue (get_or fs i d).top → IsMisaligned total (get_or fs i d) → TopMisaligned total fs
found total fs i d l back top off = back (subst (TopMisaligned total) (sym (drop_more fs i d l)) (inl (top, off)))

passed : (total : ℕ) (fs : List PlacementItem) (i : ℕ) (d : PlacementItem) → i < length fs
    → (IsTrue (get_or fs i d).top → IsMisaligned total (get_or fs i d) → ⊥)
    → (TopMisaligned total (drop i fs) → TopMisaligned total fs) × (TopMisaligned total fs → TopMisaligned total (drop i fs))
    → (TopMisaligned total (drop (i + 1) fs) → TopMisaligned total fs) × (TopMisaligned total fs → TopMisaligned total (drop (i + 1) fs))
passed total fs i d l not both = grind (arith, common_steps, drop_more)

ended : (total : ℕ) (fs : List PlacementItem) (i : ℕ) → length fs ≤ i → TopMisaligned total (drop i fs) → ⊥
ended total fs i l o = subst (TopMisaligned total) (drop_all i fs l) o

pub loop-item-init : goal.loop-item-init
loop-item-init c = (λ o. o, λ o. o)

pub returns-then-is_misaligned : goal.returns-then-is_misaligned
returns-then-is_misaligned c = grind (arith, common_steps, found)

pub loop-item-preserved : goal.loop-item-preserved
loop-item-preserved c = grind (arith, common_steps, passed, not_true)

pub returns : goal.returns
returns c =
    (λ h. cc, λ o. absurd (ended c.args.total c.args.items.now c.loop-item.item-index c.loop-item-test.false (c.loop-item.invariant.1 o)))
