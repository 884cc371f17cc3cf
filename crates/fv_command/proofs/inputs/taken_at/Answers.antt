use Rattle.std.proofs.Common.{◌≡◌, ◌-◌, ℕ, List, take, drop, length, arith, inr, length-drop, min, Result, Ok, Err, Some}
use Rattle.fv_base.proofs.Laws.{take_all, common_steps}
use Rattle.std.proofs.lemmas.List.{drop_min}
use Rattle.fv_base.specs.declared.fault.Fault.{Fault}
use Rattle.fv_head.specs.Words.{HeadFields, BeginsVolume}
use Rattle.fv_head.specs.declared.extent.Extent.{Extent}
use Rattle.fv_command.specs.Words.{TakenAt}
use Rattle.fv_command.proofs.inputs.taken_at.Goals as goal

-- the bytes from offset n on, as the code cuts them out of the input
rest_is : (n m : ℕ) (input : List ℕ) → m ≡ min n (length input) → take (length input - m) (drop m input) ≡ drop n input
rest_is n m input e = rw (take_all (length input - m) (drop m input) (omega (arith, length-drop m input)), e) (drop_min n input)

-- if a volume begins there, its bytes are used
taken_volume : (n m : ℕ) (input : List ℕ) (h : HeadFields) (e : Extent) → m ≡ min n (length input)
    → BeginsVolume h e (take (length input - m) (drop m input))
    → TakenAt (Some n) input (take e.length (take (length input - m) (drop m input)))
taken_volume n m input h e is begins = grind (arith, common_steps, rest_is)

-- if no volume begins there, all bytes from the offset on are used
taken_rest : (n m : ℕ) (input : List ℕ) (r : Result Extent Fault) (f : Fault) → m ≡ min n (length input)
    → ((h : HeadFields) (e : Extent) → BeginsVolume h e (take (length input - m) (drop m input)) → r ≡ Ok e) → r ≡ Err f
    → TakenAt (Some n) input (take (length input - m) (drop m input))
taken_rest n m input r f is only failed =
    let rest = rest_is n m input is in inr (λ h e begins. cc (only h e (rw rest begins)), rest)

pub returns-in-Ok : goal.returns-in-Ok
returns-in-Ok c =
    rw c.in-Some.is (taken_volume c.in-Some.at c.min.result c.args.input.now c.in-Ok.ensures.found.0 c.in-Ok.extent c.min.ensures
    c.in-Ok.ensures.found.1)

pub returns-in-Err : goal.returns-in-Err
returns-in-Err c =
    rw c.in-Some.is (taken_rest c.in-Some.at c.min.result c.args.input.now c.verify_fv.result c.in-Err.field-0 c.min.ensures
    c.verify_fv.ensures.only c.in-Err.is)
