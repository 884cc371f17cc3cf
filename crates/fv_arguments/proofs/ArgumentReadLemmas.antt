-- If the reader of command lines finds no fault, its matches are the rows of the arguments of the command (`read`).
-- Texts and flags are read from these rows (`text_answer`, `flag_answer`).
use Rattle.std.proofs.Common.{◌≡◌, ◌≢◌, [], ℕ, ◌∙◌, Bool, List, ap, codes, cond, drop, false, refl, sym, true, subst, arith, Option, Some, None}
use Rattle.fv_base.proofs.Laws.{is_some, true≢false, common_steps, bytes_eq-Decides, unwrap_or, bytes_eq}
use Rattle.std.proofs.lemmas.Bool.Decides.{Decides-not}
use Rattle.std.specs.Option.{option_map_or}
use Rattle.std.specs.Str.Parse.{ParsesBool}
use Rattle.clap.proofs.SimpleLemmas.{is_false}
use Rattle.clap.proofs.WalkLemmas.{both, first_value-rows, one_text-rows}
use Rattle.clap.specs.Matches.{ReadsOne, first_value, found_of, one_text}
use Rattle.clap.specs.Simple.{built, names_of}
use Rattle.clap.specs.Walk.{Text, first_of, one_of, rows_after}
use Rattle.clap.specs.Words.{App, HasMatchesOf, fault_of, is_simple_and_free}
use Rattle.clap.specs.declared.parser.matches.ArgMatches.{ArgMatches}
use Rattle.fv_arguments.specs.Words.{faults_in, flag_in, text_in, volume_app}
use Rattle.fv_arguments.specs.inner.CommandWords.{IsParsed, app_named}

-- the test for equal texts is false of two texts that differ
differ : (a b : Text) → a ≢ b → bytes_eq a b ≡ false
differ a b h = is_false _ ((Decides-not _ (bytes_eq-Decides a b)).1 h)

-- a name that is not the name of another command has the options of a volume
pub no_other : (name : Text) → name ≢ codes "normalise" → name ≢ codes "check" → name ≢ codes "hobs" → name ≢ codes "extract" → name ≢ codes "compare"
    → name ≢ codes "list" → name ≢ codes "open" → name ≢ codes "scan" → name ≢ codes "survey" → name ≢ codes "same" → app_named name ≡ volume_app
no_other name normalise check hobs extract compare list packed scan survey same = grind (arith, common_steps, differ)

-- no option of a command changes how arguments are read, or has a rule about another option
simple : (name : Text) → is_simple_and_free (app_named name) ≡ true
simple name = grind arith

-- so a statement of the reader about the options that it was given is a statement about the options of the command
pub by_name : (P : App → Type 0) (name : Text) (given : App) → given ≡ app_named name → (is_simple_and_free given ≡ true → P given)
    → P (app_named name)
by_name P name given e h = subst P e (h (ap is_simple_and_free e ∙ simple name))

-- the reader takes the first argument for the name of the program
program_first : (name : Text) → (app_named name).top.no_binary_name ≡ false
program_first name = grind arith

-- the faults of the reader are the faults in the arguments after the first
pub faults_read : (name : Text) (words : List Text) → fault_of (app_named name) words ≡ faults_in (app_named name) (drop 1 words)
faults_read name words = grind (arith, common_steps, program_first)

-- so if the reader finds no fault, the arguments after the first have none, and the matches are their rows
pub read : {m : ArgMatches} (words : List Text) (name : Text) (given : App) → given ≡ app_named name → HasMatchesOf given words m
    → (is_simple_and_free given ≡ true → fault_of given words ≡ []) → IsParsed (app_named name) (drop 1 words) m
read {m} words name given e matches kinds =
    let app = app_named name in
    record {
      rows = (by_name (λ a. HasMatchesOf a words m) name given e (λ _. matches) (both _ _ (simple name)).0).0
          ∙ ap (λ b. rows_after (built app).top.rules (names_of (built app)) (cond b words (drop 1 words))) (program_first name);
      taken = sym (faults_read name words) ∙ by_name (λ a. fault_of a words ≡ []) name given e kinds;
    }

-- a text that is found in the matches is the text in the arguments
pub text_answer : {app : App} {rest : List Text} {m : ArgMatches} → IsParsed app rest m → (id : Text)
    → first_value (found_of m) id ≡ text_in app id rest
text_answer {app} {rest} {m} r id = first_value-rows (found_of m) id ∙ ap (first_of id) r.rows

-- whether a text is `true`
abbrev is_true : Option Text → Bool
is_true text = option_map_or (λ t. bytes_eq t (codes "true")) text false

-- a flag that is read from a text is true exactly if the text is `true`; without a text it is false
bool_read : (E : Type 0) (text : Option Text) (r : Option Bool) → (text ≡ None → r ≡ None)
    → ((t : Text) → text ≡ Some t → ReadsOne {E = E} ParsesBool t r) → unwrap_or r false ≡ is_true text
bool_read E None r none value = ap (λ o. unwrap_or o false) (none refl)
bool_read E (Some t) (Some true) none value = sym ((bytes_eq-Decides t (codes "true")).1 (value t refl))
bool_read E (Some t) (Some false) none value = ap (λ u. bytes_eq u (codes "true")) (sym (value t refl))
bool_read E (Some t) None none value = sym (differ t (codes "true") (value t refl).1.0)

-- a flag that is found in the matches is the flag in the arguments
pub flag_answer : (E : Type 0) {app : App} {rest : List Text} {m : ArgMatches} → IsParsed app rest m → (id : Text) (r : Option Bool)
    → (one_text (found_of m) id ≡ None → r ≡ None)
    → ((t : Text) → one_text (found_of m) id ≡ Some t → ReadsOne {E = E} ParsesBool t r) → unwrap_or r false ≡ flag_in app id rest
flag_answer E {app} {rest} {m} is_read id r none value =
    bool_read E (one_text (found_of m) id) r none value ∙ ap is_true (one_text-rows (found_of m) id ∙ ap (one_of id) is_read.rows)

pub none_is : (o : Option ℕ) → is_some o ≡ false → o ≡ None
none_is None e = refl
none_is (Some n) e = absurd (true≢false e)
