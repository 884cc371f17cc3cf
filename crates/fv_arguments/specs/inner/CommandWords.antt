-- The arguments of one command.
use Rattle.std.specs.Prelude.{◌≡◌, ℕ, Bool, true, false, List, [], Option, Some, None, Result, Ok, Err, codes, if◌then◌else◌}
use Rattle.std.specs.Str.{bytes_eq}
use Rattle.clap.specs.Words.{App, found_of, rows_of}
use Rattle.clap.specs.declared.parser.matches.ArgMatches.{ArgMatches}
use Rattle.fv_arguments.specs.Options.{compare_app, extract_app, faults_in, hobs_app, list_app, image_app, one_input_app, rows_in}
use Rattle.fv_arguments.specs.Options.{open_app, same_app, survey_app, volume_app}
use Rattle.fv_arguments.specs.CommandLines.{AsksBy, HasTexts, command_name}
use Rattle.fv_plan.specs.declared.plan.Command.{Command}
use Rattle.fv_plan.specs.declared.plan.Plan.{Plan}
use Rattle.fv_plan.specs.declared.plan.Task.{Task}
use Rattle.fv_plan.specs.declared.plan.Task.TheVariants.{List as Listing, ListSums, ListOpened}
use Rattle.fv_arguments.specs.declared.words.WordFault.{WordFault}
use Rattle.fv_arguments.specs.declared.words.WordFault.TheVariants.{Words}

-- the arguments of a command are right: there is a plan that they ask for
abbrev pub AreRightFor : List ℕ → List (List ℕ) → Type 0
AreRightFor name rest = (plan : Plan) × AsksBy name rest plan

-- the rules of the command with this name. A name that is not a command gets the rules of a command with a volume
abbrev pub app_named : List ℕ → App
app_named name =
    if bytes_eq name (codes "normalise") then image_app
    else (if bytes_eq name (codes "check") then image_app
    else (if bytes_eq name (codes "hobs") then hobs_app
    else (if bytes_eq name (codes "extract") then extract_app
    else (if bytes_eq name (codes "compare") then compare_app
    else (if bytes_eq name (codes "list") then list_app
    else (if bytes_eq name (codes "open") then open_app
    else (if bytes_eq name (codes "scan") then one_input_app
    else (if bytes_eq name (codes "survey") then survey_app
    else (if bytes_eq name (codes "same") then same_app else volume_app)))))))))

-- the task of `list`, by whether `--sums` and `--open` are given: there is none if both are given
abbrev pub list_task : (sums opened : Bool) → Option Task
list_task false false = Some Listing
list_task true false = Some ListSums
list_task false true = Some ListOpened
list_task true true = None

-- the parser accepted the arguments of a command, and m holds the values that it found in them
pub record IsParsed (app : App) (rest : List (List ℕ)) (m : ArgMatches) : Type 0 where
  pub rows : rows_of (found_of m) ≡ rows_in app rest
  pub taken : faults_in app rest ≡ []

-- the result is a value for which P holds, or an error. The error is Words only if P holds for no value
abbrev pub ParsesOrFails : {X : Type 0} → (X → Type 0) → Result X WordFault → Type 0
ParsesOrFails P (Ok x) = P x
ParsesOrFails {X} P (Err f) = f ≡ Words → (x : X) → P x → ⊥

-- if the parser found m in the arguments, the result is the command that these arguments ask for, or an error. The
-- error is Words only if the arguments are not right
abbrev pub AsksOrFails : List ℕ → ArgMatches → Result Command WordFault → Type 0
AsksOrFails name m (Ok command) =
    (rest : List (List ℕ)) → IsParsed (app_named name) rest m → (name ≡ command_name command) × HasTexts rest command
AsksOrFails name m (Err f) = f ≡ Words → (rest : List (List ℕ)) → IsParsed (app_named name) rest m → AreRightFor name rest → ⊥
