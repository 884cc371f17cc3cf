-- The text that the steps of a run put into a sink, and whether a text was written.
use Rattle.std.specs.Prelude.{◌≡◌, ℕ, Bool, true, false, List, Option, Result, Ok, Err}
use Rattle.fv_base.specs.declared.fault.Fault.{Fault}
use Rattle.fv_compare.specs.declared.side.Side.{Side}
use Rattle.fv_command.specs.PlanRuns.{CommandRunText, StopsCommand}
use Rattle.fv_command.specs.PairRuns.{ComparisonRunText, SideStops}
use Rattle.fv_command.specs.Tasks.{TaskRefusal, TaskText}
use Rattle.fv_command.specs.declared.ending.Refusal.{Refusal}
use Rattle.fv_command.specs.declared.status.Status.{Status}
use Rattle.fv_command.specs.declared.status.Status.TheVariants.{Done, Different}
use Rattle.fv_plan.specs.declared.plan.Command.{Command}
use Rattle.fv_plan.specs.declared.plan.Task.{Task}
use Rattle.fv_text.specs.Words.{Change, PortView, StopsIn, Writes}

-- the step has this status, and the sink took its text; or something stopped the step, and the sink is unchanged
abbrev pub Puts : {S E : Type 0} → (S → List ℕ → S → Type 0) → (Status → List ℕ → Type 0) → (E → Type 0) → S → S
    → Result Status E → Type 0
Puts takes says stops s t (Ok status) = (text : List ℕ) × says status text × takes s text t
Puts takes says stops s t (Err e) = stops e × (t ≡ s)

-- the sink took the text of the task for its input; or the task fails for its input (`TaskRefusal`)
abbrev pub Performs : {S : Type 0} → (S → List ℕ → S → Type 0) → Task → Bool → List ℕ → S → S → Result Status Fault → Type 0
Performs takes task hex input s t result = Puts takes (TaskText task hex input) (TaskRefusal task input) s t result

-- the status of a comparison, by whether the two inputs have the same meaning
abbrev pub verdict_of : Bool → Status
verdict_of true = Done
verdict_of false = Different

-- the sink took the text of the comparison; or a side stopped the run
abbrev pub ComparesInputs : {S : Type 0} → (S → List ℕ → S → Type 0) → Bool → (at other : Option ℕ) → (first second : Change)
    → S → S → Result Status (Side × Fault) → Type 0
ComparesInputs takes hex at other first second s t result =
    Puts takes (ComparisonRunText hex at other first second) (λ e. SideStops e.0 hex at other first second e.1) s t result

-- the sink took the text of the command; or the command is refused
abbrev pub PutsCommand : {S : Type 0} → (S → List ℕ → S → Type 0) → Command → Bool → (first second : Change) → S → S
    → Result Status Refusal → Type 0
PutsCommand takes command hex first second s t result =
    Puts takes (CommandRunText command hex first second) (StopsCommand command hex first second) s t result

-- all of the text was written, or a write of it failed
abbrev pub Written : Bool → List ℕ → PortView → PortView → Type 0
Written true text old new = Writes old new text
Written false text old new = StopsIn old new text
