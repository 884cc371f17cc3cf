-- Arguments that are rejected as wrong are not right arguments. Either the reader finds a fault in them (`rejected`); or
-- a text in them cannot be read, although it can be read in right arguments (`no_input`, `right_part`, `right_image`,
-- `right_path`, `right_volumes`, `right_images`); or an offset is given together with `--all` (`no_place`), or `--sums`
-- together with `--open` (`no_task`).
use Rattle.std.proofs.Common.{◌≡◌, ◌≢◌, ◌&&◌, ◌||◌, ℕ, [], ◌∷◌, ◌∙◌, Bool, List, IfErr, Result, Ok, Err, Option, Some, None, ap, codes, inl, inr}
use Rattle.std.specs.String.{string_bytes}
use Rattle.std.proofs.Common.{drop, not, refl, subst, sym, true, false, true≢false, Global, IsErrAnd, String, Vec, is_some}
use Rattle.fv_base.proofs.Laws.{IfErr-weaker, bytes_eq-Decides, bytes_eq}
use Rattle.clap.specs.Values.{kind_of}
use Rattle.clap.specs.Words.{App, HasKind, Kinds, fault_of, is_simple_and_free}
use Rattle.clap.specs.declared.error.Error.{Error}
use Rattle.clap.specs.declared.parser.matches.ArgMatches.{ArgMatches}
use Rattle.fv_plan.specs.declared.plan.Command.{Command}
use Rattle.fv_plan.specs.declared.plan.ImageFile.{ImageFile}
use Rattle.fv_plan.specs.declared.plan.Part.{Part}
use Rattle.fv_plan.specs.declared.plan.VolumeFile.{VolumeFile}
use Rattle.fv_plan.specs.declared.plan.Command.TheVariants.{Single, Hobs, Open, Compare, Same}
use Rattle.fv_plan.specs.declared.plan.Task.TheVariants.{Normalise, NormaliseAll, List as Listing, ListSums, ListOpened}
use Rattle.fv_plan.specs.declared.plan.Task.TheVariants.{Extract, ExtractOpened, Check, CheckAll, Cells, Unfix, Scan, Survey, SurveyOpened}
use Rattle.fv_arguments.proofs.ArgumentReadLemmas.{by_name, faults_read}
use Rattle.fv_arguments.specs.Words.{compare_app, same_app, extract_app, faults_in, flag_in, hobs_app, image_app, list_app, text_in, HasInput, HasTexts}
use Rattle.fv_arguments.specs.Words.{IsAtWord, IsImageWords, IsPartBy, IsPathWord, IsVolumeWords, command_app, command_name, open_app}
use Rattle.fv_arguments.specs.declared.words.WordFault.{WordFault}
use Rattle.fv_arguments.specs.inner.CommandWords.{AreRightFor, AsksOrFails, IsParsed, ParsesOrFails, app_named}
use Rattle.fv_arguments.specs.declared.words.WordFault.TheVariants.{Words, OutOfMemory}
use Rattle.clap.specs.declared.error.kind.ErrorKind.TheVariants as error_kinds

-- the rules of a command are the rules for its name
named_app : (c : Command) → app_named (command_name c) ≡ command_app c
named_app (Single Normalise at file) = refl
named_app c = refl

app_is : (name : List ℕ) (c : Command) → name ≡ command_name c → app_named name ≡ command_app c
app_is name c is = ap app_named is ∙ named_app c

-- so if the rules for a command's name accepted some arguments, the rules of the command accepted them
pub read_of : {rest : List (List ℕ)} {m : ArgMatches} (name : List ℕ) (c : Command) → name ≡ command_name c
    → IsParsed (app_named name) rest m → IsParsed (command_app c) rest m
read_of name c is r = rw (app_is name c is) at r

-- a fault of the reader is passed on: out of memory stays out of memory, and any other fault becomes a fault of the
-- arguments
abbrev pub IsHandedOn : Error → WordFault → Type 0
IsHandedOn e f = (kind_of e ≡ error_kinds.OutOfMemory → f ≡ OutOfMemory) × (kind_of e ≢ error_kinds.OutOfMemory → f ≡ Words)

-- if a fault of the reader is passed on as a fault of the arguments, the reader found a fault in them
handed_on : {T : Type 0} (r : Result T WordFault) (e : Error) (ks : Kinds) → IsErrAnd r (IsHandedOn e) → HasKind ks e
    → IfErr r (λ f. f ≡ Words → ks ≢ [])
handed_on (Ok x) e ks h has = tt
handed_on (Err f) e ks h (inl memory) = λ is. cc (h.0 memory)
handed_on (Err f) e [] h (inr among) = absurd among
handed_on (Err f) e (k ∷ ks) h (inr among) = λ is none. cc

-- arguments in which the reader finds a fault are not right
pub rejected : {T : Type 0} (name : List ℕ) (given : App) → given ≡ app_named name → (words : List (List ℕ)) (e : Error)
    → (is_simple_and_free given ≡ true → HasKind (fault_of given words) e) → (r : Result T WordFault) → IsErrAnd r (IsHandedOn e)
    → IfErr r (λ f. f ≡ Words → AreRightFor name (drop 1 words) → ⊥)
rejected name given same words e kinds r h =
    let among = subst (λ ks. HasKind ks e) (faults_read name words) (by_name (λ a. HasKind (fault_of a words) e) name given same kinds) in
    IfErr-weaker r _ _ (λ f wrong is right. wrong is (ap (λ a. faults_in a (drop 1 words))
    (app_is name right.0.command right.1.command) ∙ right.1.taken)) (handed_on r e _ h among)

-- a value is rejected because a value of which it is made is rejected
pub passed : {X Y : Type 0} (P : X → Type 0) (Q : Y → Type 0) (r : Result Y WordFault) (f : WordFault) → IsErrAnd r (λ g. g ≡ f)
    → (f ≡ Words → (x : X) → P x → ⊥) → ((y : Y) → Q y → (x : X) × P x) → ParsesOrFails Q r
passed P Q (Ok y) f is none has = absurd is
passed P Q (Err g) f is none has = λ words y q. let x = has y q in none (sym is ∙ words) x.0 x.1

-- two texts are not equal if the test for equal texts is false of them
other : (a b : List ℕ) → bytes_eq a b ≡ false → a ≡ b → ⊥
other a b e is = true≢false (sym ((bytes_eq-Decides a b).1 is) ∙ e)

-- whether a command takes one volume as its input
abbrev is_on_volume : List ℕ → Bool
is_on_volume name =
    not (bytes_eq name (codes "hobs")) && (not (bytes_eq name (codes "compare")) && (not (bytes_eq name (codes "scan"))
    && (not (bytes_eq name (codes "survey")) && not (bytes_eq name (codes "same")))))

-- the arguments have an input for the command with this name
abbrev SomeInput : List ℕ → List (List ℕ) → Type 0
SomeInput name rest = (i : Option ℕ × Option (String Global)) × HasInput (app_named name) rest i.0 i.1

-- right arguments of a command on one volume have an input
right_input : (name : List ℕ) (rest : List (List ℕ)) → is_on_volume name ≡ true → AreRightFor name rest → SomeInput name rest
right_input name rest volume right =
    let is = right.1.command in rw is (go right.0.command (rw is at volume) right.1.texts)
  where
    go : (c : Command) → is_on_volume (command_name c) ≡ true → HasTexts rest c → SomeInput (command_name c) rest
    go (Single NormaliseAll at file) volume texts = ((at, file), texts.2)
    go (Single CheckAll at file) volume texts = ((at, file), texts.2)
    go (Single Listing at file) volume texts = ((at, file), texts.2)
    go (Single ListSums at file) volume texts = ((at, file), texts.2)
    go (Single ListOpened at file) volume texts = ((at, file), texts.2)
    go (Single (Extract part) at file) volume texts = ((at, file), texts.1.0)
    go (Single (ExtractOpened part) at file) volume texts = ((at, file), texts.1.0)
    go (Single Cells at file) volume texts = ((at, file), texts)
    go (Single Unfix at file) volume texts = ((at, file), texts)
    go (Single Scan at file) volume texts = absurd (true≢false (sym volume))
    go (Single Survey at file) volume texts = absurd (true≢false (sym volume))
    go (Single SurveyOpened at file) volume texts = absurd (true≢false (sym volume))
    go (Single task at file) volume texts = ((at, file), texts.1)
    go (Open path at file) volume texts = ((at, file), texts.0)
    go c volume texts = absurd (true≢false (sym volume))

-- so a command on one volume is rejected if its input is rejected
pub no_input : {m : ArgMatches} (f : WordFault) (name : List ℕ) → is_on_volume name ≡ true
    → ((app : App) (rest : List (List ℕ)) → IsParsed app rest m
    → ParsesOrFails (λ (i : Option ℕ × Option (String Global)). HasInput app rest i.0 i.1) (Err f)) → AsksOrFails name m (Err f)
no_input f name volume read = λ words rest r right.
    let input = right_input name rest volume right in read (app_named name) rest r words input.0 input.1

-- whether a command can take a whole image
abbrev is_on_image : List ℕ → Bool
is_on_image name = bytes_eq name (codes "normalise") || bytes_eq name (codes "check")

-- right arguments of `normalise` and `check` give no offset together with `--all`
pub no_place : (name : List ℕ) (rest : List (List ℕ)) (given : Option ℕ) → is_on_image name ≡ true
    → flag_in image_app (codes "all") rest ≡ true → IsAtWord (text_in image_app (codes "at") rest) given → is_some given ≡ true
    → AreRightFor name rest → ⊥
no_place name rest given image all word some right =
    go right.0.command (rw right.1.command at image) right.1.texts
  where
    placed : (text : Option (List ℕ)) (given at : Option ℕ) → IsAtWord text given → is_some given ≡ true → at ≡ None → IsAtWord text at → ⊥
    placed None given at h some none is = true≢false (sym some ∙ ap is_some h)
    placed (Some t) given None h some none is = is
    placed (Some t) given (Some n) h some none is = cc

    go : (c : Command) → is_on_image (command_name c) ≡ true → HasTexts rest c → ⊥
    go (Single Normalise at file) image texts = true≢false (sym all ∙ texts.0)
    go (Single NormaliseAll at file) image texts = placed _ given at word some texts.1 texts.2.0
    go (Single Check at file) image texts = true≢false (sym all ∙ texts.0)
    go (Single CheckAll at file) image texts = placed _ given at word some texts.1 texts.2.0
    go c image texts = true≢false (sym image)

-- right arguments of `list` do not have both flags
pub no_task : (rest : List (List ℕ)) → flag_in list_app (codes "sums") rest ≡ true → flag_in list_app (codes "open") rest ≡ true
    → AreRightFor (codes "list") rest → ⊥
no_task rest sums opened right = go right.0.command right.1.command right.1.texts
  where
    go : (c : Command) → codes "list" ≡ command_name c → HasTexts rest c → ⊥
    go (Single Listing at file) is texts = true≢false (sym sums ∙ texts.0)
    go (Single ListSums at file) is texts = true≢false (sym opened ∙ texts.1)
    go (Single ListOpened at file) is texts = true≢false (sym sums ∙ texts.0)
    go (Single Normalise at file) is texts = other _ _ refl is
    go c is texts = other _ _ refl is

-- the arguments have a part for `extract`
abbrev pub SomePart : List (List ℕ) → Type 0
SomePart rest = (part : Part) × IsPartBy (text_in extract_app (codes "name") rest) (text_in extract_app (codes "section") rest)
    (text_in extract_app (codes "instance") rest) part

pub right_part : (rest : List (List ℕ)) → AreRightFor (codes "extract") rest → SomePart rest
right_part rest right = go right.0.command right.1.command right.1.texts
  where
    go : (c : Command) → codes "extract" ≡ command_name c → HasTexts rest c → SomePart rest
    go (Single (Extract part) at file) is texts = (part, texts.1.1)
    go (Single (ExtractOpened part) at file) is texts = (part, texts.1.1)
    go c is texts = absurd (other _ _ refl is)

-- the arguments have an image for `hobs`, or none
abbrev pub SomeImage : List (List ℕ) → Type 0
SomeImage rest =
    (image : Option ImageFile) × IsImageWords (text_in hobs_app (codes "image") rest) (text_in hobs_app (codes "base") rest) image

pub right_image : (rest : List (List ℕ)) → AreRightFor (codes "hobs") rest → SomeImage rest
right_image rest right = go right.0.command right.1.command right.1.texts
  where
    go : (c : Command) → codes "hobs" ≡ command_name c → HasTexts rest c → SomeImage rest
    go (Hobs file image) is texts = (image, texts.1)
    go (Single Normalise at file) is texts = absurd (other _ _ refl is)
    go c is texts = absurd (other _ _ refl is)

-- the arguments have a path for `open`, or none
abbrev pub SomePath : List (List ℕ) → Type 0
SomePath rest = (path : Option (Vec ℕ Global)) × IsPathWord (text_in open_app (codes "section") rest) path

pub right_path : (rest : List (List ℕ)) → AreRightFor (codes "open") rest → SomePath rest
right_path rest right = go right.0.command right.1.command right.1.texts
  where
    go : (c : Command) → codes "open" ≡ command_name c → HasTexts rest c → SomePath rest
    go (Open path at file) is texts = (path, texts.1)
    go (Single Normalise at file) is texts = absurd (other _ _ refl is)
    go c is texts = absurd (other _ _ refl is)

-- the arguments have two volumes for `compare`
abbrev pub SomeVolumes : List (List ℕ) → Type 0
SomeVolumes rest = (first : VolumeFile) × (second : VolumeFile)
    × IsVolumeWords (text_in compare_app (codes "first") rest) (text_in compare_app (codes "at") rest) first
    × IsVolumeWords (text_in compare_app (codes "second") rest) (text_in compare_app (codes "other-at") rest) second

pub right_volumes : (rest : List (List ℕ)) → AreRightFor (codes "compare") rest → SomeVolumes rest
right_volumes rest right = go right.0.command right.1.command right.1.texts
  where
    go : (c : Command) → codes "compare" ≡ command_name c → HasTexts rest c → SomeVolumes rest
    go (Compare first second) is texts = (first, second, texts.0, texts.1)
    go (Single Normalise at file) is texts = absurd (other _ _ refl is)
    go c is texts = absurd (other _ _ refl is)

-- the arguments have two images for `same`
abbrev pub SomeImages : List (List ℕ) → Type 0
SomeImages rest = (first : String Global) × (second : String Global)
    × (Some (string_bytes first) ≡ text_in same_app (codes "first") rest)
    × (Some (string_bytes second) ≡ text_in same_app (codes "second") rest)

pub right_images : (rest : List (List ℕ)) → AreRightFor (codes "same") rest → SomeImages rest
right_images rest right = go right.0.command right.1.command right.1.texts
  where
    go : (c : Command) → codes "same" ≡ command_name c → HasTexts rest c → SomeImages rest
    go (Same first second) is texts = (first, second, texts.0, texts.1)
    go (Single Normalise at file) is texts = absurd (other _ _ refl is)
    go c is texts = absurd (other _ _ refl is)
