-- A store as EDK II writes it is read as its variables (`store_read`). The steps:
-- 1. A walk comes from a variable to its filler, and from there to the next variable (`variable_first`, `filler_split`).
-- 2. So it reads the variables that follow the header of a store, whatever comes after them (`chained_split`,
--    `chain_read`).
use Rattle.std.proofs.Common.{◌≡◌, ◌≤◌, ◌<◌, ◌+◌, ◌-◌, ◌==◌, ◌&&◌, ℕ, List, [], ◌∷◌, ◌++◌, Bool, true, false, take, drop, length, nat_le, not}
use Rattle.std.proofs.Common.{if◌then◌else◌, refl, sym, ap, ◌∙◌, subst, arith, length-append, length-drop, length-take-le, append_assoc, append-nil, take-append-drop, le-leb, lt-ltb, leb-true, eqb-true, eq-eqb, None, Some, get_or}
use Rattle.std.proofs.lemmas.List.{get_or_append_left}
use Rattle.std.proofs.Math.Seq.{drop-append_seam, take-append_seam}
use Rattle.std.specs.List.{AllByRecursion}
use Rattle.fv_variables.specs.declared.row.Row.{Row}
use Rattle.fv_base.proofs.Laws.{AllAre, all-all_are, and_split, and_join, field, field-append_front, le, le_at}
use Rattle.fv_variables.specs.declared.format.StoreFormat.{StoreFormat}
use Rattle.fv_variables.specs.declared.format.StoreFormat.TheVariants as formats
use Rattle.fv_variables.specs.declared.format.Variable.{Variable}
use Rattle.fv_variables.specs.declared.row.Finding.TheVariants as findings
use Rattle.fv_variables.specs.declared.row.Part.{Part}
use Rattle.fv_variables.specs.declared.row.Part.TheVariants as parts
use Rattle.fv_variables.specs.declared.sign.Sign.TheVariants as signs
use Rattle.fv_variables.specs.declared.step.Reading.{Reading}
use Rattle.fv_variables.specs.declared.step.Reading.TheVariants as readings
use Rattle.fv_variables.specs.declared.step.Step.{Step}
use Rattle.fv_variables.specs.Words.{AreRead, BeginsStore, Chained, IsStore, fields_of, fields_with, IsVariable, chain_step, filler_after, filler_step, has_start_id}
use Rattle.fv_variables.specs.Words.{has_store_size, header_finding, header_len, header_step, part_step, plain_step, row_at, rows_left, rows_of}
use Rattle.fv_variables.specs.Words.{sign_by, sign_of, sign_step, step_at, store_end, store_guid, unread_step, variable_in, variable_len}
use Rattle.fv_variables.specs.Words.{variable_step, within}
use Rattle.fv_variables.proofs.RowLaws.{lent}
use Rattle.fv_variables.proofs.StepLaws.{end_lies, header_some}

-- ---- steps in the rest of a store, which is all bytes

abbrev found_step : StoreFormat → Part → ℕ → List ℕ → Step
found_step format part size b = record {
  part = part;
  finding = None;
  length = size;
  next = within format (length b - size) (filler_after size (length b - size));
}

abbrev free_step : List ℕ → Step
free_step b = record { part = parts.Free; finding = None; length = length b; next = readings.Outside }

-- a reading of the rest of a store is a reading in the store if the rest has bytes
within_some : (format : StoreFormat) (left filler : ℕ) → 0 < left → within format left filler ≡ readings.Store format left filler
within_some format left filler some = go (left == 0) refl where
  go : (t : Bool) → (left == 0) ≡ t → (if t then readings.Outside else readings.Store format left filler) ≡ readings.Store format left filler
  go true e = absurd (omega (arith, some, eqb-true left 0 e))
  go false e = refl

-- the rows of the rest b of a store, which y follows, by the first step
chain_rows : (format : StoreFormat) (at : ℕ) (b y rest : List ℕ) (s : Step) → 0 < length b → chain_step format b ≡ s
    → rest ≡ drop s.length (b ++ y)
    → rows_left (within format (length b) 0) at (b ++ y) ≡ row_at at s ∷ rows_left s.next (at + s.length) rest
chain_rows format at b y rest s some step_is rest_is =
    let long : length (b ++ y) ≡ length b + length y = length-append b y in
    let step : s ≡ step_at (readings.Store format (length b) 0) (b ++ y) =
    sym (ap (chain_step format) (take-append_seam b y) ∙ step_is) in
    subst (λ r. rows_left r at (b ++ y) ≡ row_at at s ∷ rows_left s.next (at + s.length) rest) (sym (within_some format (length b) 0 some))
    (lent (readings.Store format (length b) 0) at (b ++ y) rest s (omega (arith, long, some)) (some, omega arith, omega (arith, long)) step rest_is)

-- ---- erased bytes

not_start : (b : List ℕ) → AllAre 0xff b → has_start_id b ≡ false
not_start [] all = refl
not_start (x ∷ []) all = refl
not_start (x ∷ y ∷ ys) (e, (h, more)) =
    subst (λ u. (nat_le 2 (length (u ∷ y ∷ ys)) && (le (u ∷ y ∷ []) == 0x55aa)) ≡ false) (sym e)
    (subst (λ u. (nat_le 2 (length (255 ∷ u ∷ ys)) && (le (255 ∷ u ∷ []) == 0x55aa)) ≡ false) (sym h) (go (nat_le 2 (length (255 ∷ 255 ∷ ys)))))
  where
    go : (t : Bool) → (t && (le (255 ∷ 255 ∷ []) == 0x55aa)) ≡ false
    go true = refl
    go false = refl

free_first : (format : StoreFormat) (b : List ℕ) → AllAre 0xff b → chain_step format b ≡ free_step b
free_first format b all =
    ap (λ t. if not t then plain_step findings.StartId b
    else (if nat_le (header_len format) (length b) then variable_step format (variable_in format b) b
    else unread_step findings.VariableSize b)) (not_start b all)
    ∙ ap (λ t. if t then free_step b else unread_step findings.StartId b) (all-all_are 0xff b all)

free_read : (format : StoreFormat) (at : ℕ) (b : List ℕ) → AllAre 0xff b → AreRead (rows_left (within format (length b) 0) at (b ++ [])) []
free_read format at [] all = (refl, tt)
free_read format at (x ∷ xs) all =
    let none : [] ≡ drop (length (x ∷ xs)) ((x ∷ xs) ++ []) = sym (drop-append_seam (x ∷ xs) []) in
    subst (λ rows. AreRead rows [])
    (sym (chain_rows format at (x ∷ xs) [] [] (free_step (x ∷ xs)) (omega arith) (free_first format (x ∷ xs) all) none)) (refl, (refl, tt))

-- ---- a variable and its filler

-- the fields of a variable are within its bytes
front_fields : (format : StoreFormat) (c x : List ℕ) → header_len format ≤ length c → variable_in format (c ++ x) ≡ variable_in format c
front_fields formats.Plain c x l =
    let state : get_or (c ++ x) 2 0 ≡ get_or c 2 0 = get_or_append_left c x 0 2 (omega (arith, l)) in
    let attributes : le_at 4 4 (c ++ x) ≡ le_at 4 4 c = ap le (field-append_front 4 4 c x (omega (arith, l))) in
    let name : le_at 8 4 (c ++ x) ≡ le_at 8 4 c = ap le (field-append_front 8 4 c x (omega (arith, l))) in
    let size : le_at 12 4 (c ++ x) ≡ le_at 12 4 c = ap le (field-append_front 12 4 c x (omega (arith, l))) in
    let vendor : field 16 16 (c ++ x) ≡ field 16 16 c = field-append_front 16 16 c x (omega (arith, l)) in
    cc
front_fields formats.Authenticated c x l =
    let state : get_or (c ++ x) 2 0 ≡ get_or c 2 0 = get_or_append_left c x 0 2 (omega (arith, l)) in
    let attributes : le_at 4 4 (c ++ x) ≡ le_at 4 4 c = ap le (field-append_front 4 4 c x (omega (arith, l))) in
    let count : le_at 8 8 (c ++ x) ≡ le_at 8 8 c = ap le (field-append_front 8 8 c x (omega (arith, l))) in
    let time : field 16 16 (c ++ x) ≡ field 16 16 c = field-append_front 16 16 c x (omega (arith, l)) in
    let key : le_at 32 4 (c ++ x) ≡ le_at 32 4 c = ap le (field-append_front 32 4 c x (omega (arith, l))) in
    let name : le_at 36 4 (c ++ x) ≡ le_at 36 4 c = ap le (field-append_front 36 4 c x (omega (arith, l))) in
    let size : le_at 40 4 (c ++ x) ≡ le_at 40 4 c = ap le (field-append_front 40 4 c x (omega (arith, l))) in
    let vendor : field 44 16 (c ++ x) ≡ field 44 16 c = field-append_front 44 16 c x (omega (arith, l)) in
    cc

len_is : (format : StoreFormat) (c : List ℕ) → header_len format + (variable_in format c).name_size + (variable_in format c).data_size
    ≡ variable_len (variable_in format c)
len_is formats.Plain c = refl
len_is formats.Authenticated c = refl

-- the first step over a variable and what follows it
variable_first : (format : StoreFormat) (v : Variable) (c x : List ℕ) → IsVariable format v c
    → chain_step format (c ++ x) ≡ found_step format (parts.Variable v) (length c) (c ++ x)
variable_first format v c x is =
    let b : List ℕ = c ++ x in
    let both : (nat_le 2 (length c) ≡ true) × ((le_at 0 2 c == 0x55aa) ≡ true) = and_split _ _ is.start in
    let long : length c ≤ length b = omega (arith, length-append c x) in
    let some : 2 ≤ length c = leb-true 2 (length c) both.0 in
    let start : has_start_id b ≡ true = and_join _ _ (le-leb 2 (length b) (omega (arith, some, long)))
    (ap (λ n. n == 0x55aa) (ap le (field-append_front 0 2 c x (omega (arith, some)))) ∙ both.1) in
    let fields : variable_in format b ≡ v = front_fields format c x is.headed ∙ sym is.fields in
    let size : header_len format + v.name_size + v.data_size ≡ length c =
    subst (λ w. header_len format + w.name_size + w.data_size ≡ variable_len w) (sym is.fields) (len_is format c) ∙ sym is.sized in
    ap (λ t. if not t then plain_step findings.StartId b
    else (if nat_le (header_len format) (length b) then variable_step format (variable_in format b) b
    else unread_step findings.VariableSize b)) start
    ∙ ap (λ t. if t then variable_step format (variable_in format b) b else unread_step findings.VariableSize b)
    (le-leb (header_len format) (length b) (omega (arith, is.headed, long)))
    ∙ ap (λ w. variable_step format w b) fields
    ∙ ap (λ t. if t then part_step format parts.Unfinished (header_len format) b
    else part_step format (parts.Variable v) (header_len format + v.name_size + v.data_size) b) is.finished
    ∙ ap (λ n. part_step format (parts.Variable v) n b) size
    ∙ ap (λ t. if t then found_step format (parts.Variable v) (length c) b else unread_step findings.VariableSize b)
    (le-leb (length c) (length b) long)

-- the rows of d are rows that have no findings and are these variables, and then the rows of the rest of the store
record Split (reading : Reading) (at : ℕ) (d : List ℕ) (format : StoreFormat) (rest y : List ℕ) (vs : List Variable) : Type 0 where
  rows : List Row
  from : ℕ
  split : rows_left reading at d ≡ rows ++ rows_left (within format (length rest) 0) from (rest ++ y)
  read : AreRead rows vs

filler_split : (format : StoreFormat) (at : ℕ) (filler after rest y : List ℕ) (vs : List Variable)
    → ((k : ℕ) → Split (within format (length after) 0) k (after ++ y) format rest y vs)
    → Split (within format (length (filler ++ after)) (length filler)) at ((filler ++ after) ++ y) format rest y vs
filler_split format at [] after rest y vs more = more at
filler_split format at (x ∷ xs) after rest y vs more =
    let f : List ℕ = x ∷ xs in
    let b : List ℕ = f ++ after in
    let d : List ℕ = b ++ y in
    let long : length b ≡ length f + length after = length-append f after in
    let whole : length d ≡ length b + length y = length-append b y in
    let first : 0 < length f = omega arith in
    let s : Step = filler_step format (length b) (length f) in
    let step : s ≡ step_at (readings.Store format (length b) (length f)) d =
    sym (ap (λ t. if t then filler_step format (length b) (length f) else chain_step format (take (length b) d)) (lt-ltb 0 (length f) first)) in
    let after_is : after ++ y ≡ drop (length f) d =
    sym (ap (drop (length f)) (append_assoc f after y) ∙ drop-append_seam f (after ++ y)) in
    let lends : rows_left (readings.Store format (length b) (length f)) at d ≡ row_at at s ∷ rows_left s.next (at + length f) (after ++ y) =
    lent (readings.Store format (length b) (length f)) at d (after ++ y) s (omega (arith, long, whole, first))
    (omega (arith, long, first), omega (arith, long), omega (arith, whole)) step after_is in
    let next : within format (length b - length f) 0 ≡ within format (length after) 0 = ap (λ n. within format n 0) (omega (arith, long)) in
    let later = more (at + length f) in record {
      rows = row_at at s ∷ later.rows;
      from = later.from;
      split = ap (λ r. rows_left r at d) (within_some format (length b) (length f) (omega (arith, long, first))) ∙ lends
          ∙ ap (λ r. row_at at s ∷ rows_left r (at + length f) (after ++ y)) next ∙ ap (λ l. row_at at s ∷ l) later.split;
      read = (later.read.0, (refl, later.read.1));
    }

-- the variables of the rest of a store, and then what follows them
chained_split : (format : StoreFormat) (vs : List Variable) (at : ℕ) (b rest y : List ℕ) → Chained format vs rest b
    → Split (within format (length b) 0) at (b ++ y) format rest y vs
chained_split format [] at b rest y e =
    subst (λ d. Split (within format (length d) 0) at (d ++ y) format rest y []) (sym e)
    (record { rows = []; from = at; split = refl; read = (refl, tt) })
chained_split format (v ∷ vs) at b rest y (c, filler, after, joined, is, padded, more) =
    subst (λ d. Split (within format (length d) 0) at (d ++ y) format rest y (v ∷ vs)) (sym joined)
    (go (filler_split format (at + length c) filler after rest y vs (λ k. chained_split format vs k after rest y more)))
  where
    go : Split (within format (length (filler ++ after)) (length filler)) (at + length c) ((filler ++ after) ++ y) format rest y vs
        → Split (within format (length (c ++ (filler ++ after))) 0) at ((c ++ (filler ++ after)) ++ y) format rest y (v ∷ vs)
    go later =
        let d : List ℕ = c ++ (filler ++ after) in
        let long : length d ≡ length c + length (filler ++ after) = length-append c (filler ++ after) in
        let left : length d - length c ≡ length (filler ++ after) = omega (arith, long) in
        let s : Step = found_step format (parts.Variable v) (length c) d in
        let after_is : (filler ++ after) ++ y ≡ drop (length c) (d ++ y) =
        sym (ap (drop (length c)) (append_assoc c (filler ++ after) y) ∙ drop-append_seam c ((filler ++ after) ++ y)) in
        let lends = chain_rows format at d y ((filler ++ after) ++ y) s (omega (arith, long, is.headed, header_some format))
        (variable_first format v c (filler ++ after) is) after_is in
        let next : within format (length d - length c) (filler_after (length c) (length d - length c))
        ≡ within format (length (filler ++ after)) (length filler) =
        ap (λ n. within format n (filler_after (length c) n)) left ∙ ap (within format (length (filler ++ after))) (sym padded) in record {
          rows = row_at at s ∷ later.rows;
          from = later.from;
          split = lends ∙ ap (λ r. row_at at s ∷ rows_left r (at + length c) ((filler ++ after) ++ y)) next ∙ ap (λ l. row_at at s ∷ l) later.split;
          read = (ap (λ l. v ∷ l) later.read.0, (refl, later.read.1));
        }

-- ---- joined rows

with_append : (part : Part) (vs ws : List Variable) → fields_with part (vs ++ ws) ≡ fields_with part vs ++ ws
with_append (parts.Variable v) vs ws = refl
with_append (parts.StoreHeader header) vs ws = refl
with_append parts.Unfinished vs ws = refl
with_append parts.Filler vs ws = refl
with_append parts.Free vs ws = refl
with_append parts.WorkingBlock vs ws = refl
with_append (parts.ListHeader list) vs ws = refl
with_append (parts.Signature owner) vs ws = refl
with_append parts.Unread vs ws = refl

fields_append : (xs ys : List Row) → fields_of (xs ++ ys) ≡ fields_of xs ++ fields_of ys
fields_append [] ys = refl
fields_append (x ∷ xs) ys = ap (fields_with x.part) (fields_append xs ys) ∙ with_append x.part (fields_of xs) (fields_of ys)

clean_append : (xs ys : List Row) → AllByRecursion (λ row. row.finding ≡ None) xs → AllByRecursion (λ row. row.finding ≡ None) ys
    → AllByRecursion (λ row. row.finding ≡ None) (xs ++ ys)
clean_append [] ys h k = k
clean_append (x ∷ xs) ys h k = (h.0, clean_append xs ys h.1 k)

-- ---- the store

signs_as : (format : StoreFormat) → sign_of (store_guid format) ≡ signs.Store format
signs_as formats.Plain = refl
signs_as formats.Authenticated = refl

-- the rows of bytes that begin with the header of a store
store_rows : (format : StoreFormat) (b : List ℕ) → 32 ≤ length b → field 0 16 b ≡ store_guid format
    → rows_of b ≡ row_at 0 (header_step format b) ∷ rows_left (within format (store_end b - 28) 0) (0 + 28) (drop 28 b)
unfolding rows_of
store_rows format b long signature =
    let s : Step = header_step format b in
    let sign : sign_by b ≡ signs.Store format =
    ap (λ t. if t then sign_of (field 0 16 b) else signs.Nothing) (le-leb 32 (length b) long) ∙ ap sign_of signature ∙ signs_as format in
    lent readings.Outside 0 b (drop 28 b) s (omega (arith, long)) tt (sym (ap (λ t. sign_step t b) sign)) refl

-- the variables that follow the header of a store are read
pub chain_read : (format : StoreFormat) (vs : List Variable) (b : List ℕ) → BeginsStore format vs b
    → (more : List Variable) × (fields_of (rows_of b) ≡ vs ++ more)
chain_read format vs b is =
    let n : ℕ = store_end b - 28 in
    let content : List ℕ = take n (drop 28 b) in
    let y : List ℕ = drop n (drop 28 b) in
    let lies = end_lies b (omega (arith, is.long)) in
    let long : length content ≡ n = length-take-le n (drop 28 b) (omega (arith, length-drop 28 b, lies.1)) in
    let whole : content ++ y ≡ drop 28 b = take-append-drop n (drop 28 b) in
    let s = chained_split format vs (0 + 28) content is.rest y is.chained in
    let rows : rows_of b ≡ row_at 0 (header_step format b) ∷ (s.rows ++ rows_left (within format (length is.rest) 0) s.from (is.rest ++ y)) =
    store_rows format b is.long is.signature
    ∙ ap (λ l. row_at 0 (header_step format b) ∷ l)
    (ap (λ d. rows_left (within format n 0) (0 + 28) d) (sym whole) ∙ ap (λ k. rows_left (within format k 0) (0 + 28) (content ++ y)) (sym long)
    ∙ s.split) in
    let last : List Row = rows_left (within format (length is.rest) 0) s.from (is.rest ++ y) in
    (fields_of last, ap fields_of rows ∙ fields_append s.rows last ∙ ap (λ l. l ++ fields_of last) s.read.0)

-- a store as EDK II writes it is read as its variables, without findings
pub store_read : (format : StoreFormat) (vs : List Variable) (b : List ℕ) → IsStore format vs b → AreRead (rows_of b) vs
store_read format vs b is =
    let size : has_store_size b ≡ true = and_join _ _ (le-leb 28 (le_at 16 4 b) (omega (arith, is.sized, is.long)))
    (le-leb (le_at 16 4 b) (length b) (omega (arith, is.sized))) in
    let end : store_end b ≡ length b = ap (λ t. if t then le_at 16 4 b else length b) size ∙ is.sized in
    let clean : header_finding b ≡ None =
    ap (λ t. if not t then Some findings.StoreSize else (if (get_or b 20 0 == 0x5a) && (get_or b 21 0 == 0xfe) then None
    else Some findings.StoreState)) size
    ∙ ap (λ t. if t then None else Some findings.StoreState)
    (and_join (get_or b 20 0 == 0x5a) (get_or b 21 0 == 0xfe) (eq-eqb (get_or b 20 0) 0x5a is.formatted) (eq-eqb (get_or b 21 0) 0xfe is.healthy)) in
    let next : within format (store_end b - 28) 0 ≡ within format (length (drop 28 b)) 0 =
    ap (λ n. within format n 0) (omega (arith, end, length-drop 28 b)) in
    let s = chained_split format vs (0 + 28) (drop 28 b) is.rest [] is.chained in
    let last : List Row = rows_left (within format (length is.rest) 0) s.from (is.rest ++ []) in
    let free : AreRead last [] = free_read format s.from is.rest is.erased in
    let rows : rows_of b ≡ row_at 0 (header_step format b) ∷ (s.rows ++ last) =
    store_rows format b is.long is.signature
    ∙ ap (λ l. row_at 0 (header_step format b) ∷ l)
    (ap (λ r. rows_left r (0 + 28) (drop 28 b)) next
    ∙ ap (λ d. rows_left (within format (length (drop 28 b)) 0) (0 + 28) d) (sym (append-nil (drop 28 b))) ∙ s.split) in
    subst (λ l. AreRead l vs) (sym rows) (
      fields_append s.rows last ∙ ap (λ l. l ++ fields_of last) s.read.0 ∙ ap (λ l. vs ++ l) free.0 ∙ append-nil vs,
      (clean, clean_append s.rows last s.read.1 free.1),
    )
