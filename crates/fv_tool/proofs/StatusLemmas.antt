-- The run of a plan does not end with the status of wrong arguments (`never_wrong`).
use Rattle.std.proofs.Common.{◌≡◌, ℕ, ◌∙◌, List, Bool, true, false, cond, inl, inr, subst, sym, Option, None, Some, Vec, Global}
use Rattle.fv_text.specs.Words.{Change}
use Rattle.fv_command.specs.Words.{HasText, Runs, RunsOver, CommandRunText, OpenText, PackedText, TaskText}
use Rattle.fv_command.specs.Words.{found_status, opened_status, part_status, survey_status}
use Rattle.fv_command.specs.declared.ending.Ending.{Ending}
use Rattle.fv_command.specs.declared.ending.Refusal.{Refusal}
use Rattle.fv_command.specs.declared.packed.Packed.{Packed}
use Rattle.fv_command.specs.declared.packed.Packed.TheVariants as packed
use Rattle.fv_command.specs.declared.status.Status.{Status}
use Rattle.fv_command.specs.declared.status.Status.TheVariants.{Done, Different, Faulty, Incomplete, Refused, WrongArguments}
use Rattle.fv_extract.specs.declared.outcome.Outcome.{Outcome}
use Rattle.fv_extract.specs.declared.outcome.Outcome.TheVariants.{Put, NotFound, NotSectioned}
use Rattle.fv_plan.specs.declared.plan.Command.{Command}
use Rattle.fv_plan.specs.declared.plan.Plan.{Plan}
use Rattle.fv_plan.specs.declared.plan.Task.{Task}
use Rattle.fv_plan.specs.declared.plan.Command.TheVariants.{Single, Hobs, Open, Compare, Same}
use Rattle.fv_plan.specs.declared.plan.Task.TheVariants.{Normalise, NormaliseAll, List as Listing, ListSums, ListOpened}
use Rattle.fv_plan.specs.declared.plan.Task.TheVariants.{Extract, ExtractOpened, Check, CheckAll, Cells, Unfix, Scan, Survey, SurveyOpened}

part_not_wrong : (outcome : Outcome) → WrongArguments ≡ part_status outcome → ⊥
part_not_wrong Put is = cc
part_not_wrong NotFound is = cc
part_not_wrong NotSectioned is = cc

found_not_wrong : (outcome : Option Outcome) → WrongArguments ≡ found_status outcome → ⊥
found_not_wrong (Some outcome) is = part_not_wrong outcome is
found_not_wrong None is = cc

opened_not_wrong : (ran_out : Bool) (status : Status) → (WrongArguments ≡ status → ⊥) → WrongArguments ≡ opened_status ran_out status
    → ⊥
opened_not_wrong true status not is = cc
opened_not_wrong false status not is = not is

checks_not_wrong : (rejected another : Bool) → WrongArguments ≡ cond rejected Faulty (cond another Different Done) → ⊥
checks_not_wrong true another is = cc
checks_not_wrong false true is = cc
checks_not_wrong false false is = cc

survey_not_wrong : (clean : Bool) → WrongArguments ≡ survey_status clean → ⊥
survey_not_wrong true is = cc
survey_not_wrong false is = cc

says_not_wrong : (task : Task) (hex : Bool) (input text : List ℕ) → TaskText task hex input WrongArguments text → ⊥
says_not_wrong Normalise hex input text said = said
says_not_wrong NormaliseAll hex input text said = said
says_not_wrong Listing hex input text said = said
says_not_wrong ListSums hex input text said = said
says_not_wrong ListOpened hex input text (m, ran_out, begins, lists, is) = opened_not_wrong ran_out Done (λ bad. cc) is
says_not_wrong (Extract part) hex input text (m, x, outcome, bytes, begins, are, shows, is, said) = part_not_wrong outcome is
says_not_wrong (ExtractOpened part) hex input text (m, found, bytes, begins, are, is, said) =
    opened_not_wrong found.ran_out (found_status found.outcome) (found_not_wrong found.outcome) is
says_not_wrong Check hex input text said = said
says_not_wrong CheckAll hex input text (checks, found, is, text_is) = checks_not_wrong _ _ is
says_not_wrong Cells hex input text said = said
says_not_wrong Unfix hex input text said = said
says_not_wrong Scan hex input text said = said
says_not_wrong Survey hex input text (inl (is, all)) = survey_not_wrong _ is
says_not_wrong Survey hex input text (inr (is, front)) = let bad : WrongArguments ≡ Incomplete = is in cc
says_not_wrong SurveyOpened hex input text (inl (is, all)) = survey_not_wrong _ is
says_not_wrong SurveyOpened hex input text (inr (is, front)) = let bad : WrongArguments ≡ Incomplete = is in cc

packed_not_wrong : (hex : Bool) (p : Packed) (text : List ℕ) → PackedText hex p WrongArguments text → ⊥
packed_not_wrong hex (packed.Section frame) text said = said
packed_not_wrong hex packed.NotFound text said = said
packed_not_wrong hex packed.NotPacked text said = said

opens_not_wrong : (path : Option (Vec ℕ Global)) (hex : Bool) (at : Option ℕ) (input : Change) (text : List ℕ)
    → OpenText path hex at input WrongArguments text → ⊥
opens_not_wrong None hex at input text (is, shows) = let bad : WrongArguments ≡ Done = is in cc
opens_not_wrong (Some path) hex at input text (bytes, m, p, gives, begins, finds, said) = packed_not_wrong hex p text said

command_not_wrong : (c : Command) (hex : Bool) (first second : Change) (text : List ℕ) → CommandRunText c hex first second WrongArguments text
    → ⊥
command_not_wrong (Single task at file) hex first second text (same, (bytes, gives, said)) = says_not_wrong task hex bytes text said
command_not_wrong (Hobs file image) hex first second text (is, lists) = let bad : WrongArguments ≡ Done = is in cc
command_not_wrong (Open path at file) hex first second text (same, said) = opens_not_wrong path hex at first text said
command_not_wrong (Compare a b) hex first second text (m, k, gives, also, inl (is, same), line) = let bad : WrongArguments ≡ Done = is in cc
command_not_wrong (Compare a b) hex first second text (m, k, gives, also, inr (is, differ), line) = let bad : WrongArguments ≡ Different = is in cc
command_not_wrong (Same a b) hex first second text (one, other, None, gives, also, (is, same), line) = let bad : WrongArguments ≡ Done = is in cc
command_not_wrong (Same a b) hex first second text (one, other, Some d, gives, also, (is, differ, places), line) = let bad : WrongArguments ≡ Different = is in cc

text_not_wrong : (c : Command) (hex : Bool) (first second : Change) (refusal : Option Refusal) (text : List ℕ)
    → HasText c hex first second refusal WrongArguments text → ⊥
text_not_wrong c hex first second None text said = command_not_wrong c hex first second text said
text_not_wrong c hex first second (Some refusal) text (stops, is, line) = let bad : WrongArguments ≡ Refused = is in cc

run_not_wrong : (p : Plan) (ended : Ending) (first second output : Change) → Runs p ended first second output
    → ended.status ≡ WrongArguments → ⊥
run_not_wrong p ended first second output (ran, text, has, inl (is, wrote)) wrong =
    text_not_wrong p.command p.hex first second ended.refusal text
    (subst (λ (s : Status). HasText p.command p.hex first second ended.refusal s text) (sym is ∙ wrong) has)
run_not_wrong p ended first second output (ran, text, has, inr (is, stops)) wrong = let bad : WrongArguments ≡ Refused = sym wrong ∙ is in cc

-- the run of a plan does not end with the status WrongArguments
pub never_wrong : {S F : Type 0} (of_input : S → Option (List ℕ)) (of_file : F → Option (List ℕ))
    (opens : List ℕ → Option F → Type 0) (is_standard : S → Type 0) (p : Plan) (ended : Ending) (output : Change)
    → RunsOver of_input of_file opens is_standard p ended output → ended.status ≡ WrongArguments → ⊥
never_wrong of_input of_file opens is_standard p ended output (first, second, is_first, is_second, s, s', ran) is =
    run_not_wrong p ended _ _ output ran is
