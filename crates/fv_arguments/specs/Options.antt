-- The rules of the commands, as the command-line parser gets them: flags, options and files.
use Rattle.std.specs.Prelude.{ℕ, Bool, false, List, Option, Some, codes}
use Rattle.std.specs.Option.{option_map_or}
use Rattle.std.specs.Str.{bytes_eq}
use Rattle.clap.specs.Faults.{built_fault}
use Rattle.clap.specs.Kinds.{Kinds}
use Rattle.clap.specs.Simple.{names_of}
use Rattle.clap.specs.Walk.{nothing_held, rows_after}
use Rattle.clap.specs.Words.{App, Row, Rule, built, first_of, new_app, new_rule, one_of, with_rule}
use Rattle.clap.specs.declared.builder.action.ArgAction.TheVariants.{SetTrue}

-- the rule for a flag with this name
abbrev pub flag_rule : List ℕ → Rule
flag_rule name = record (new_rule name) { long = Some name; action = Some SetTrue }

-- the rule for an option with this name, which takes one value
abbrev pub option_rule : List ℕ → Rule
option_rule name = record (new_rule name) { long = Some name }

-- the rules that all commands share: `--hex`, which says that inputs and outputs are hexadecimal text
abbrev pub flag_app : App
flag_app = with_rule (new_app (codes "fvtool")) (flag_rule (codes "hex"))

-- the rules of a command with one input and without `--at`
abbrev pub one_input_app : App
one_input_app = with_rule flag_app (new_rule (codes "file"))

-- the rules of `survey`: an image; and `--open`, which goes through packed sections
abbrev pub survey_app : App
survey_app = with_rule (with_rule flag_app (flag_rule (codes "open"))) (new_rule (codes "file"))

-- the rules of a command with a volume in an input: `--at` is the byte of the input at which the volume begins
abbrev pub volume_app : App
volume_app = with_rule (with_rule flag_app (option_rule (codes "at"))) (new_rule (codes "file"))

-- the rules of a command with a volume in an input, or with `--all` an image with all its volumes
abbrev pub image_app : App
image_app = with_rule (with_rule (with_rule flag_app (flag_rule (codes "all"))) (option_rule (codes "at"))) (new_rule (codes "file"))

-- the rules of `list`: a volume in an input; `--sums`, which shows digests; and `--open`, which goes through packed
-- sections
abbrev pub list_app : App
list_app =
    with_rule (with_rule (with_rule (with_rule flag_app (flag_rule (codes "sums"))) (flag_rule (codes "open")))
    (option_rule (codes "at"))) (new_rule (codes "file"))

-- the rules of `hobs`: a hand-off list, and an image with its address `--base`, which has 64 bits
abbrev pub hobs_app : App
hobs_app = with_rule (with_rule (with_rule flag_app (option_rule (codes "image"))) (option_rule (codes "base"))) (new_rule (codes "file"))

-- the rules of `extract`: a volume in an input; the part that is extracted, where `--instance` has 32 bits; and `--open`,
-- which goes through packed sections
abbrev pub extract_app : App
extract_app =
    with_rule (with_rule (with_rule (with_rule (with_rule (with_rule flag_app (option_rule (codes "name"))) (option_rule (codes "section")))
    (option_rule (codes "instance"))) (flag_rule (codes "open"))) (option_rule (codes "at"))) (new_rule (codes "file"))

-- the rules of `open`: a section in an input, or a volume with the path `--section` of a section in it
abbrev pub open_app : App
open_app = with_rule (with_rule (with_rule flag_app (option_rule (codes "section"))) (option_rule (codes "at"))) (new_rule (codes "file"))

-- the rules of `compare`: two inputs, each with the byte at which its volume begins (`--at`, `--other-at`)
abbrev pub compare_app : App
compare_app =
    with_rule (with_rule (with_rule (with_rule flag_app (option_rule (codes "at"))) (option_rule (codes "other-at")))
    (new_rule (codes "first"))) (new_rule (codes "second"))

-- the rules of `same`: two inputs
abbrev pub same_app : App
same_app = with_rule (with_rule flag_app (new_rule (codes "first"))) (new_rule (codes "second"))

-- the values that the parser finds in the arguments after the command's name
abbrev pub rows_in : App → List (List ℕ) → List Row
rows_in app rest = rows_after (built app).top.rules (names_of (built app)) rest

-- the faults that the parser finds in the arguments after the command's name: none, if it accepts them
abbrev pub faults_in : App → List (List ℕ) → Kinds
faults_in app rest = built_fault (built app) nothing_held rest

-- the text that the parser finds for an option or an operand, if it is given
abbrev pub text_in : App → List ℕ → List (List ℕ) → Option (List ℕ)
text_in app id rest = first_of id (rows_in app rest)

-- whether a flag is given, before any `--`: the parser then finds `true` for it
abbrev pub flag_in : App → List ℕ → List (List ℕ) → Bool
flag_in app id rest = option_map_or (λ t. bytes_eq t (codes "true")) (one_of id (rows_in app rest)) false
