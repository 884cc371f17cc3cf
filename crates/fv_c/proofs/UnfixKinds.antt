-- Proves that the first fault of an input whose marks of fixed files cannot be taken away has a number of at most 16,
-- and is not Fixed (`kept_number`). `IsKindKept` states this of a fault. `IsKindKept` is true of the fault of each check
-- of a header, and of the fault of bytes after the volume. The fault of each check of a cell is Fixed, or `IsKindKept` is
-- true of this fault (`IsOfCell`), and the first fault is not Fixed.
use Rattle.std.proofs.lemmas.Grind.{common_steps}
use Rattle.std.proofs.Common.{◌≤◌, ◌+◌, ℕ, ◌≢◌, List, Bool, Option, arith, drop, inl, inr, rules, slice_index}
use Rattle.fv_base.proofs.Laws.{AllByRecursion, Check, First, fault_number, fails_among}
use Rattle.fv_base.specs.declared.fault.Fault.{Fault}
use Rattle.fv_base.specs.declared.flash.FileSystem.{FileSystem}
use Rattle.fv_file.specs.Words.{cell_checks, file_checks, state_checks, state_of}
use Rattle.fv_file.specs.declared.state.FileState.{FileState}
use Rattle.fv_head.specs.Words.{head_checks}
use Rattle.fv_tree.specs.Words.{IsFirstOfMarked}
use Rattle.fv_base.specs.declared.fault.FaultKind.TheVariants as kinds

-- the number is at most 16, and is not 15, the number of Fixed
abbrev IsKindKept : Fault → Type 0
IsKindKept f = (fault_number f.kind ≤ 16) × (fault_number f.kind ≢ 15)

-- the fault is Fixed, or `IsKindKept` is true of the fault
abbrev IsOfCell : Fault → Type 0
IsOfCell f = f.kind ≢ kinds.Fixed → IsKindKept f

file_kinds : (s : FileSystem) (alive : Bool) (at : ℕ) (r : List ℕ) → AllByRecursion (λ (c : Check Fault). IsOfCell c.fault) (file_checks s alive at r)
file_kinds s alive at r = search rules

state_kinds : (o : Option FileState) (s : FileSystem) (at : ℕ) (r : List ℕ)
    → AllByRecursion (λ (c : Check Fault). IsOfCell c.fault) (state_checks o s at r)
state_kinds o s at r = grind (arith, common_steps, file_kinds) steps 150000

pub kept_number : (input : List ℕ) (f : Fault) → IsFirstOfMarked input f → IsKindKept f
kept_number input f (inl (inl head)) = fails_among First IsKindKept (head_checks input) f (search rules) head
kept_number input f (inl (inr (e, o, body, u, fault, other))) =
    let at = e.first + fault.at in
    let r = drop fault.at body in
    let kinds = state_kinds (state_of e.polarity (slice_index r 23)) e.file_system at r in
    fails_among First IsOfCell (cell_checks e.file_system e.polarity at r) f (search rules, kinds) fault.fails other
kept_number input f (inr (unfixed, (h, e, front, less, is))) = rw is (search rules)
