-- The rows are honest (`honest`). The steps:
-- 1. Each step says what is so, if the store that the reading is in is the store around (`step_says`).
-- 2. So does each row (`rows_say`).
use Rattle.std.proofs.Common.{◌≡◌, ◌≤◌, ◌<◌, ◌+◌, ◌-◌, ◌==◌, ℕ, zero, suc, List, [], ◌∷◌, Bool, true, false, take, drop, length, nat_le, nat_lt, not}
use Rattle.std.proofs.Common.{if◌then◌else◌, refl, sym, ap, ◌∙◌, subst, true≢false, leb-true, arith, length-take-le, length-drop, drop-drop, Some, None, inl, inr}
use Rattle.fv_base.proofs.Laws.{AllAre, all_are, all_are-true, all-all_are, field, le_at, nat_tests}
use Rattle.fv_variables.specs.declared.format.StoreFormat.{StoreFormat}
use Rattle.fv_variables.specs.declared.format.StoreFormat.TheVariants as formats
use Rattle.fv_variables.specs.declared.format.Variable.{Variable}
use Rattle.fv_variables.specs.declared.row.Finding.{Finding}
use Rattle.fv_variables.specs.declared.row.Finding.TheVariants as findings
use Rattle.fv_variables.specs.declared.row.Part.{Part}
use Rattle.fv_variables.specs.declared.row.Part.TheVariants as parts
use Rattle.fv_variables.specs.declared.sign.Sign.{Sign}
use Rattle.fv_variables.specs.declared.sign.Sign.TheVariants as signs
use Rattle.fv_variables.specs.declared.step.Reading.{Reading}
use Rattle.fv_variables.specs.declared.step.Reading.TheVariants as readings
use Rattle.fv_variables.specs.declared.step.Step.{Step}
use Rattle.fv_variables.specs.Words.{Around, InList, InStore, Nowhere, IsHonest, IsRead, LiesIn, SaysAs, StoreBreaks, UnreadBreaks, around_after, begins_sign, chain_step}
use Rattle.fv_variables.specs.Words.{filler_after, filler_step, first_sign, gap_step, has_queue_size, has_start_id, header_len, header_step, is_sign}
use Rattle.fv_variables.specs.Words.{is_unfinished, part_step, plain_step, row_at, rows_of, rows_up_to, sign_by, sign_step, step_at}
use Rattle.fv_variables.specs.Words.{store_end, store_guid, store_step, unread_step, variable_in, variable_len, variable_step, within, working_guid, working_step}
use Rattle.fv_variables.proofs.RowLaws.{after_step}
use Rattle.fv_variables.proofs.SignLaws.{Names, sign_none, sign_within, signed, signed_long}
use Rattle.fv_base.specs.Words.{guid_of}
use Rattle.fv_variables.specs.Words.{has_list_sizes, list_in, list_step, passed_step, signature_rows, signature_step, within_list}
use Rattle.fv_variables.proofs.StepLaws.{end_lies, sizes}

-- the store that the reading is in is the store around
abbrev Matches : Reading → ℕ → Around → Type 0
Matches readings.Outside at around = Unit {0}
Matches readings.Lists at around = Unit {0}
Matches (readings.List left size) at around = around ≡ InList size (at + left)
Matches (readings.Store format left filler) at around = (around ≡ InStore format (at + left)) × (filler < 4)

-- a step at this offset of b says what is so, and so can the steps after it
record Says (s : Step) (b : List ℕ) (at : ℕ) (around : Around) : Type 0 where
  says : SaysAs s.part b (drop at b) around (row_at at s)
  next : Matches s.next (at + s.length) (around_after s.part b around (row_at at s))

within_matches : (format : StoreFormat) (left filler at : ℕ) (around : Around) → around ≡ InStore format (at + left)
    → filler < 4 → Matches (within format left filler) at around
within_matches format left filler at around is small = go (left == 0) where
  go : (t : Bool) → Matches (if t then readings.Outside else readings.Store format left filler) at around
  go true = tt
  go false = (is, small)

-- ---- bytes that are erased or not read

not_all : (c : List ℕ) → all_are 0xff c ≡ false → AllAre 0xff c → ⊥
not_all c e all = true≢false (sym (all-all_are 0xff c all) ∙ e)

unread_says : (finding : Finding) (c b : List ℕ) (at : ℕ) (around : Around)
    → UnreadBreaks b around (row_at at (unread_step finding c)) finding → Says (unread_step finding c) b at around
unread_says finding c b at around why = record { says = (finding, refl, why); next = tt }

plain_says : (finding : Finding) (c b : List ℕ) (at : ℕ) (around : Around) → field at (length c) b ≡ c
    → ((AllAre 0xff c → ⊥) → UnreadBreaks b around (row_at at (unread_step finding c)) finding) → Says (plain_step finding c) b at around
plain_says finding c b at around is why = go (all_are 0xff c) refl where
  go : (t : Bool) → all_are 0xff c ≡ t
      → Says (if t then record { part = parts.Free; finding = None; length = length c; next = readings.Outside } else unread_step finding c)
      b at around
  go true e = record { says = subst (AllAre 0xff) (sym is) (all_are-true 0xff c e); next = tt }
  go false e = unread_says finding c b at around (why (not_all c e))

-- ---- outside of stores

header_says : (format : StoreFormat) (b : List ℕ) (at : ℕ) (around : Around) → field 0 16 (drop at b) ≡ store_guid format
    → 32 ≤ length (drop at b) → Says (header_step format (drop at b)) b at around
header_says format b at around name long = record {
  says = (name, refl, refl, refl);
  next = within_matches format (store_end (drop at b) - 28) 0 (at + 28) (InStore format (at + store_end (drop at b)))
      (ap (InStore format) (omega (arith, (end_lies (drop at b) (omega (arith, long))).0))) (omega arith);
}

working_says : (b : List ℕ) (at : ℕ) (around : Around) → field 0 16 (drop at b) ≡ working_guid
    → Says (working_step (drop at b)) b at around
working_says b at around name = record { says = (name, refl, go (has_queue_size (drop at b))); next = tt } where
  go : (t : Bool) → (if t then None else Some findings.QueueSize) ≡ None
      → (if t then 32 + le_at 24 8 (drop at b) else length (drop at b)) ≡ 32 + le_at 24 8 (drop at b)
  go true e = refl
  go false e = cc

gap_says : (b : List ℕ) (at : ℕ) (around : Around) → Says (gap_step (drop at b)) b at around
gap_says b at around =
    let r : List ℕ = drop at b in
    let c : List ℕ = take (first_sign r) r in
    let long : length c ≡ first_sign r = length-take-le (first_sign r) r (sign_within r) in
    let is : field at (length c) b ≡ c = ap (λ k. take k r) long in
    plain_says findings.NoStore c b at around is (λ none. (
      (λ all. none (subst (AllAre 0xff) is all)),
      (λ k low high.
          let moved : drop (k - at) r ≡ drop k b = drop-drop (k - at) at b ∙ ap (λ j. drop j b) (omega (arith, low)) in
          subst (λ d. begins_sign d ≡ false) moved (sign_none r (k - at) (omega (arith, low, high, long)))),
    ))

outside_says : (b : List ℕ) (at : ℕ) (around : Around) → Says (sign_step (sign_by (drop at b)) (drop at b)) b at around
outside_says b at around = go (sign_by (drop at b)) refl (signed (drop at b)) where
  go : (s : Sign) → sign_by (drop at b) ≡ s → Names s (field 0 16 (drop at b)) → Says (sign_step s (drop at b)) b at around
  go (signs.Store format) e name = header_says format b at around name (signed_long (drop at b) (ap is_sign e))
  go signs.Working e name = working_says b at around name
  go signs.Nothing e name = gap_says b at around

-- ---- in a store

lies_in : (holds : StoreFormat → List ℕ → Type 0) (format : StoreFormat) (left at : ℕ) (b : List ℕ) (s : Step) → s.length ≤ left
    → holds format (take left (drop at b)) → LiesIn (InStore format (at + left)) b (row_at at s) holds
lies_in holds format left at b s l h =
    let rest : take left (drop at b) ≡ field at (at + left - at) b = ap (λ n. take n (drop at b)) (omega arith) in
    (omega (arith, l), subst (holds format) rest h)

abbrev rest_of : ℕ → ℕ → List ℕ → List ℕ
rest_of left at b = take left (drop at b)

short_says : (format : StoreFormat) (left at : ℕ) (b : List ℕ) → length (rest_of left at b) ≡ left
    → StoreBreaks findings.VariableSize format (rest_of left at b)
    → Says (unread_step findings.VariableSize (rest_of left at b)) b at (InStore format (at + left))
short_says format left at b long why =
    unread_says findings.VariableSize (rest_of left at b) b at (InStore format (at + left))
    (lies_in (λ f rest. (length (rest_of left at b) ≡ length rest) × StoreBreaks findings.VariableSize f rest) format left at b
    (unread_step findings.VariableSize (rest_of left at b)) (omega (arith, long)) (refl, why))

-- a part of this length and what follows it
found_step : StoreFormat → Part → ℕ → List ℕ → Step
found_step format part size c = record {
  part = part;
  finding = None;
  length = size;
  next = within format (length c - size) (filler_after size (length c - size));
}

part_says : (format : StoreFormat) (part : Part) (size : ℕ) (c b : List ℕ) (at : ℕ) (around : Around)
    → (size ≤ length c → Says (found_step format part size c) b at around)
    → (length c < size → Says (unread_step findings.VariableSize c) b at around) → Says (part_step format part size c) b at around
unfolding found_step
part_says format part size c b at around found short = go (nat_le size (length c)) refl where
  go : (t : Bool) → nat_le size (length c) ≡ t → Says (if t then found_step format part size c else unread_step findings.VariableSize c) b at around
  go true e = found (leb-true size (length c) e)
  go false e = let less : length c < size = grind (arith, nat_tests) in short less

-- the rest of the store after a part
part_next : (format : StoreFormat) (left at size : ℕ) (b : List ℕ) → length (rest_of left at b) ≡ left → size ≤ length (rest_of left at b)
    → Matches (within format (length (rest_of left at b) - size) (filler_after size (length (rest_of left at b) - size))) (at + size)
    (InStore format (at + left))
part_next format left at size b long enough =
    within_matches format (length (rest_of left at b) - size) (filler_after size (length (rest_of left at b) - size)) (at + size)
    (InStore format (at + left)) (ap (InStore format) (omega (arith, long, enough))) (omega arith)

len_by : (format : StoreFormat) (c : List ℕ) → header_len format + (variable_in format c).name_size + (variable_in format c).data_size
    ≡ variable_len (variable_in format c)
len_by formats.Plain c = refl
len_by formats.Authenticated c = refl

variable_says : (format : StoreFormat) (left at : ℕ) (b : List ℕ) → length (rest_of left at b) ≡ left
    → has_start_id (rest_of left at b) ≡ true → header_len format ≤ length (rest_of left at b)
    → Says (variable_step format (variable_in format (rest_of left at b)) (rest_of left at b)) b at (InStore format (at + left))
unfolding found_step
variable_says format left at b long start headed =
    go (is_unfinished (variable_in format (rest_of left at b))) refl (len_by format (rest_of left at b))
  where
    go : (t : Bool) → is_unfinished (variable_in format (rest_of left at b)) ≡ t
        → header_len format + (variable_in format (rest_of left at b)).name_size + (variable_in format (rest_of left at b)).data_size
        ≡ variable_len (variable_in format (rest_of left at b))
        → Says (if t then part_step format parts.Unfinished (header_len format) (rest_of left at b)
        else part_step format (parts.Variable (variable_in format (rest_of left at b)))
        (header_len format + (variable_in format (rest_of left at b)).name_size + (variable_in format (rest_of left at b)).data_size)
        (rest_of left at b)) b at (InStore format (at + left))
    go true e len = part_says format parts.Unfinished (header_len format) (rest_of left at b) b at (InStore format (at + left))
        (λ enough. record {
          says = lies_in (λ f rest. (has_start_id rest ≡ true) × (is_unfinished (variable_in f rest) ≡ true) × (header_len format ≡ header_len f))
              format left at b (found_step format parts.Unfinished (header_len format) (rest_of left at b)) (omega (arith, long, enough))
              (start, e, refl);
          next = part_next format left at (header_len format) b long enough;
        }) (λ short. absurd (omega (arith, short, headed)))
    go false e len =
        let v : Variable = variable_in format (rest_of left at b) in
        let size : ℕ = header_len format + v.name_size + v.data_size in
        part_says format (parts.Variable v) size (rest_of left at b) b at (InStore format (at + left))
        (λ enough. record {
          says = lies_in (λ f rest. (has_start_id rest ≡ true) × (v ≡ variable_in f rest) × (is_unfinished v ≡ false) × (size ≡ variable_len v))
              format left at b (found_step format (parts.Variable v) size (rest_of left at b)) (omega (arith, long, enough))
              (start, refl, e, len);
          next = part_next format left at size b long enough;
        }) (λ short. short_says format left at b long (start, inr (subst (λ n. length (rest_of left at b) < n) len short)))

chain_says : (format : StoreFormat) (left at : ℕ) (b : List ℕ) → length (rest_of left at b) ≡ left
    → Says (chain_step format (rest_of left at b)) b at (InStore format (at + left))
chain_says format left at b long = go (has_start_id (rest_of left at b)) (nat_le (header_len format) (length (rest_of left at b))) refl refl where
  go : (t u : Bool) → has_start_id (rest_of left at b) ≡ t → nat_le (header_len format) (length (rest_of left at b)) ≡ u
      → Says (if not t then plain_step findings.StartId (rest_of left at b)
      else (if u then variable_step format (variable_in format (rest_of left at b)) (rest_of left at b)
      else unread_step findings.VariableSize (rest_of left at b))) b at (InStore format (at + left))
  go false u e h =
      plain_says findings.StartId (rest_of left at b) b at (InStore format (at + left)) (ap (λ k. take k (drop at b)) long)
      (λ none. lies_in (λ f rest. (length (rest_of left at b) ≡ length rest) × StoreBreaks findings.StartId f rest) format left at b
      (unread_step findings.StartId (rest_of left at b)) (omega (arith, long)) (refl, (e, none)))
  go true true e h = variable_says format left at b long e (leb-true (header_len format) (length (rest_of left at b)) h)
  go true false e h =
      let short : length (rest_of left at b) < header_len format = grind (arith, nat_tests) in
      short_says format left at b long (e, inl short)

filler_says : (format : StoreFormat) (left filler at : ℕ) (b : List ℕ) → filler ≤ left → filler < 4
    → Says (filler_step format left filler) b at (InStore format (at + left))
filler_says format left filler at b f small = record {
  says = lies_in (λ f rest. filler < 4) format left at b (filler_step format left filler) f small;
  next = within_matches format (left - filler) 0 (at + filler) (InStore format (at + left))
      (ap (InStore format) (omega (arith, f))) (omega arith);
}

store_says : (format : StoreFormat) (left filler at : ℕ) (b : List ℕ) → filler ≤ left → left ≤ length (drop at b) → filler < 4
    → Says (store_step format left filler (drop at b)) b at (InStore format (at + left))
store_says format left filler at b f l small = go (nat_lt 0 filler) where
  go : (t : Bool) → Says (if t then filler_step format left filler else chain_step format (rest_of left at b)) b at
      (InStore format (at + left))
  go true = filler_says format left filler at b f small
  go false = chain_says format left at b (length-take-le left (drop at b) l)

-- ---- in signature lists

within_list_matches : (left size at : ℕ) (around : Around) → around ≡ InList size (at + left) → Matches (within_list left size) at around
within_list_matches left size at around is = go (left == 0) where
  go : (t : Bool) → Matches (if t then readings.Lists else readings.List left size) at around
  go true = tt
  go false = is

list_says : (b : List ℕ) (at : ℕ) (around : Around) → at ≤ length b → Says (list_step (drop at b)) b at around
list_says b at around within = go (has_list_sizes (drop at b)) refl where
  go : (t : Bool) → has_list_sizes (drop at b) ≡ t → Says (if t then record {
    part = parts.ListHeader (list_in (drop at b));
    finding = None;
    length = 28 + le_at 20 4 (drop at b);
    next = within_list (le_at 16 4 (drop at b) - (28 + le_at 20 4 (drop at b))) (le_at 24 4 (drop at b));
  }
      else passed_step findings.ListSize (length (drop at b))) b at around
  go true e = record {
    says = (e, refl, refl);
    next = within_list_matches (le_at 16 4 (drop at b) - (28 + le_at 20 4 (drop at b))) (le_at 24 4 (drop at b))
        (at + (28 + le_at 20 4 (drop at b))) (InList (le_at 24 4 (drop at b)) (at + le_at 16 4 (drop at b)))
        (ap (InList (le_at 24 4 (drop at b))) (omega (arith, (sizes (drop at b) e).inside)));
  }
  go false e = record { says = (findings.ListSize, refl, (omega (arith, length-drop at b, within), e)); next = tt }

signature_says : (left size at : ℕ) (b : List ℕ) → Says (signature_step left size (drop at b)) b at (InList size (at + left))
signature_says left size at b = go (nat_le size left) refl where
  go : (t : Bool) → nat_le size left ≡ t → Says (if t then record {
    part = parts.Signature (guid_of (field 0 16 (drop at b)));
    finding = None;
    length = size;
    next = within_list (left - size) size;
  } else passed_step findings.SignatureSize left) b at (InList size (at + left))
  go true e =
      let enough : size ≤ left = leb-true size left e in record {
        says = (omega (arith, enough), (refl, refl));
        next = within_list_matches (left - size) size (at + size) (InList size (at + left)) (ap (InList size) (omega (arith, enough)));
      }
  go false e =
      let short : left < size = grind (arith, nat_tests) in
      record { says = (findings.SignatureSize, refl, ((omega arith, short), refl)); next = tt }

-- ---- all rows

step_says : (reading : Reading) (b : List ℕ) (at : ℕ) (around : Around) → at ≤ length b → IsRead reading (length (drop at b))
    → Matches reading at around → Says (step_at reading (drop at b)) b at around
step_says readings.Outside b at around l is matches = outside_says b at around
step_says readings.Lists b at around l is matches = list_says b at around l
step_says (readings.List left size) b at around l is matches =
    subst (λ a. Says (signature_step left size (drop at b)) b at a) (sym matches) (signature_says left size at b)
step_says (readings.Store format left filler) b at around within (some, f, l) (is, small) =
    subst (λ a. Says (store_step format left filler (drop at b)) b at a) (sym is) (store_says format left filler at b f l small)

rows_say : (n : ℕ) (reading : Reading) (at : ℕ) (b r : List ℕ) (around : Around) → drop at b ≡ r → IsRead reading (length r)
    → Matches reading at around → IsHonest b around (rows_up_to n reading at r)
rows_say zero reading at b r around e is matches = tt
rows_say (suc n) reading at b [] around e is matches = tt
rows_say (suc n) reading at b (x ∷ xs) around e is matches =
    let s : Step = step_at reading (x ∷ xs) in
    let after = after_step reading (x ∷ xs) (omega arith) is in
    let says : Says s b at around = subst (λ r. Says (step_at reading r) b at around) e
    (step_says reading b at around (omega (arith, ap length e, length-drop at b)) (subst (λ r. IsRead reading (length r)) (sym e) is) matches) in
    let moved : drop (at + s.length) b ≡ drop s.length (x ∷ xs) = sym (drop-drop s.length at b) ∙ ap (drop s.length) e in
    (says.says, rows_say n s.next (at + s.length) b (drop s.length (x ∷ xs)) (around_after s.part b around (row_at at s)) moved after.read says.next)

-- each row says what is so
pub honest : (b : List ℕ) → IsHonest b Nowhere (rows_of b)
unfolding rows_of
honest b = rows_say (length b) readings.Outside 0 b b Nowhere refl tt tt

pub honest_lists : (b : List ℕ) → IsHonest b Nowhere (signature_rows b)
unfolding signature_rows
honest_lists b = rows_say (length b) readings.Lists 0 b b Nowhere refl tt tt
