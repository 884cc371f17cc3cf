-- The verdict of a table of checks is the fault of the first check that does not hold, or a value if all checks hold.
-- The steps:
-- 1. All checks hold exactly if there is no first fault (`all_hold`, `none_faulty`).
-- 2. The first fault is the fault of the first check that does not hold (`first_is`). If two tables are joined, it is
--    the first fault of the first table or, if that table has none, of the second (`first_front`, `first_whole`).
-- 3. A property of the faults of all checks is a property of each fault whose check fails (`first_among`,
--    `fails_among`). If all checks hold, no fault is the fault of a check that fails (`none_fails`). A table has at
--    most one first fault (`one_fault`), and it is a fault whose check fails (`any_fails`).
-- 4. A verdict is the first fault or, if all checks hold, a value (`verdict_ok`, `verdict_err`, `verdict_none`).
use Rattle.std.proofs.lemmas.Grind.{common_steps}
use Rattle.std.proofs.Common.{arith}
use Rattle.std.proofs.Common.{◌≡◌, List, [], ◌∷◌, ◌++◌, refl, ap, subst, sym, ◌∙◌, inl, inr, Bool, true, false}
use Rattle.std.specs.Prelude.{◌&&◌, Option, None, Some, Ok, Err, if◌then◌else◌}
use Rattle.std.specs.List.{AllByRecursion}
use Rattle.fv_base.specs.Words.{Check, AllHold, FailsAfter, IsFirstFault, GuardsHold, Which, First, Any, Fails}
use Rattle.fv_base.specs.declared.fault.Fault.{Fault}
use Rattle.fv_base.specs.inner.Verdicts.{first_fault, verdict_by}
use Rattle.fv_base.proofs.ListLaws.{TwoCuts, in_middle, two_cuts}
use Rattle.fv_base.proofs.TestLemmas.{up_is_not_down}

pub and_split : (a b : Bool) → (a && b) ≡ true → (a ≡ true) × (b ≡ true)
and_split a b h = grind (arith, common_steps)

pub and_join : (a b : Bool) → a ≡ true → b ≡ true → (a && b) ≡ true
and_join a b h k = grind (arith, common_steps)

-- if there is no first fault, every check holds
pub all_hold : {F : Type 0} → (cs : List (Check F)) → first_fault cs ≡ None → AllHold cs
all_hold [] none = tt
all_hold (c ∷ cs) none = go c.holds refl (all_hold cs) none where
  go : (h : Bool) → c.holds ≡ h → (first_fault cs ≡ None → AllHold cs) → (if h then first_fault cs else Some c.fault) ≡ None
      → AllHold (c ∷ cs)
  go true is rest n = (is, rest n)
  go false is rest n = cc

-- if every check holds, there is no first fault
pub none_faulty : {F : Type 0} → (cs : List (Check F)) → AllHold cs → first_fault cs ≡ None
none_faulty [] all = refl
none_faulty (c ∷ cs) all = rw all.0 (none_faulty cs all.1)

-- the first fault is the fault of the first check that does not hold
pub first_is : {F : Type 0} → (cs : List (Check F)) (f : F) → first_fault cs ≡ Some f → IsFirstFault cs f
first_is [] f h = cc
first_is {F} (c ∷ cs) f h = go c.holds refl (first_is cs f) h where
  go : (t : Bool) → c.holds ≡ t → (first_fault cs ≡ Some f → IsFirstFault cs f)
      → (if t then first_fault cs else Some c.fault) ≡ Some f → IsFirstFault (c ∷ cs) f
  go true is rest k = let r = rest k in (c ∷ r.0, r.1, r.2, ap (λ (ds : List (Check F)). c ∷ ds) r.3, (is, r.4), r.5, r.6)
  go false is rest k = ([], c, cs, refl, tt, is, cc)

-- the first fault of two joined tables is the first fault of the first table if it has one, and otherwise the first
-- fault of the second table
pub first_front : {F : Type 0} → (cs ds : List (Check F)) (f : F) → first_fault cs ≡ Some f → first_fault (cs ++ ds) ≡ Some f
first_front [] ds f is = cc
first_front {F} (c ∷ cs) ds f is = go c.holds (first_front cs ds f) is where
  go : (t : Bool) → (first_fault cs ≡ Some f → first_fault (cs ++ ds) ≡ Some f) → (if t then first_fault cs else Some c.fault) ≡ Some f
      → (if t then first_fault (cs ++ ds) else Some c.fault) ≡ Some f
  go true rest k = rest k
  go false rest k = k

pub first_whole : {F : Type 0} → (cs ds : List (Check F)) → first_fault cs ≡ None → first_fault (cs ++ ds) ≡ first_fault ds
first_whole [] ds is = refl
first_whole {F} (c ∷ cs) ds is = go c.holds (first_whole cs ds) is where
  go : (t : Bool) → (first_fault cs ≡ None → first_fault (cs ++ ds) ≡ first_fault ds) → (if t then first_fault cs else Some c.fault) ≡ None
      → (if t then first_fault (cs ++ ds) else Some c.fault) ≡ first_fault ds
  go true rest k = rest k
  go false rest k = cc

-- a property of the faults of all checks is a property of the fault of a check that fails
among : {F : Type 0} → (H : List (Check F) → Type 0) (P : F → Type 0) (cs : List (Check F)) (f : F) → AllByRecursion (λ c. P c.fault) cs
    → FailsAfter H cs f → P f
among {F} H P cs f all (before, c, after, is, held, bad, fault) =
    let Q : Check F → Type 0 = λ d. P d.fault in
    subst P (sym fault) (in_middle Q before c after (subst (λ (l : List (Check F)). AllByRecursion Q l) is all))

pub first_among : {F : Type 0} → (P : F → Type 0) (cs : List (Check F)) (f : F) → AllByRecursion (λ c. P c.fault) cs → IsFirstFault cs f
    → P f
first_among {F} P cs f all first = among AllHold P cs f all first

pub fails_among : (which : Which) (P : Fault → Type 0) (cs : List (Check Fault)) (f : Fault) → AllByRecursion (λ c. P c.fault) cs
    → Fails which cs f → P f
fails_among First P cs f all bad = among AllHold P cs f all bad
fails_among Any P cs f all bad = among GuardsHold P cs f all bad

-- if all checks of a table hold, each of them holds
holds_in : {F : Type 0} → (cs before : List (Check F)) (c : Check F) (after : List (Check F)) → cs ≡ before ++ (c ∷ after) → AllHold cs
    → c.holds ≡ true
holds_in {F} cs before c after is all =
    in_middle (λ (d : Check F). d.holds ≡ true) before c after (subst (λ (l : List (Check F)). AllHold l) is all)

-- if all checks of a table hold, no fault is the fault of a check that fails
not_failing : {F : Type 0} → (H : List (Check F) → Type 0) (cs : List (Check F)) (f : F) → FailsAfter H cs f → AllHold cs → ⊥
not_failing H cs f (before, c, after, is, held, bad, fault) all = up_is_not_down c.holds (holds_in cs before c after is all) bad

pub none_fails : (which : Which) (cs : List (Check Fault)) (f : Fault) → Fails which cs f → AllHold cs → ⊥
none_fails First cs f bad all = not_failing AllHold cs f bad all
none_fails Any cs f bad all = not_failing GuardsHold cs f bad all

-- if a table has no first fault, no fault is its first fault
pub not_first : {F : Type 0} → (cs : List (Check F)) (f : F) → IsFirstFault cs f → first_fault cs ≡ None → ⊥
not_first {F} cs f first none = not_failing AllHold cs f first (all_hold cs none)

-- a table has at most one first fault: a check whose predecessors all hold does not come after a check that fails
pub one_fault : {F : Type 0} (cs : List (Check F)) (f g : F) → IsFirstFault cs f → IsFirstFault cs g → f ≡ g
one_fault {F} cs f g (before, c, after, is, held, fails, fault) (before', d, after', is', held', fails', fault') =
    go (two_cuts before c after before' d after' (sym is ∙ is'))
  where
    go : TwoCuts before c after before' d after' → f ≡ g
    go (inl (same, item)) = fault ∙ ap (λ (k : Check F). k.fault) item ∙ sym fault'
    go (inr (inl (mid, late, rest))) = absurd (up_is_not_down c.holds (holds_in before' before c mid late held') fails)
    go (inr (inr (mid, late, rest))) = absurd (up_is_not_down d.holds (holds_in before before' d mid late held) fails')

-- if all checks hold, their guards hold too, so the first fault is also a fault in the sense of `Any`
guards : (cs : List (Check Fault)) → AllHold cs → GuardsHold cs
guards [] all = tt
guards (c ∷ cs) all = (λ guard. all.0, guards cs all.1)

pub any_fails : (cs : List (Check Fault)) (f : Fault) → Fails First cs f → Fails Any cs f
any_fails cs f (before, c, after, is, held, bad, fault) = (before, c, after, is, guards before held, bad, fault)

-- ---- a fault, or else the value

pub verdict_ok : {A F : Type 0} → (o : Option F) (a b : A) → verdict_by o a ≡ Ok b → (o ≡ None) × (a ≡ b)
verdict_ok o a b e = grind (arith, common_steps)

pub verdict_err : {A F : Type 0} → (o : Option F) (a : A) (f : F) → verdict_by o a ≡ Err f → o ≡ Some f
verdict_err o a f e = grind (arith, common_steps)

pub verdict_none : {A F : Type 0} → (o : Option F) (a : A) → o ≡ None → verdict_by o a ≡ Ok a
verdict_none o a e = grind (arith, common_steps)
