-- The bytes that are written for an extended header are read again as this extended header. The steps:
-- 1. A payload has the length of its kept payload, also if a used size is written into the payload (`length-held`,
--    `length-payload_with`).
-- 2. So written entries are read again as these entries (`entries_again`), and a written extended header as this
--    extended header (`ext_again`).
-- 3. A walk puts the entries one by one (`entries_step`, `entries_end`), each with its payload (`used_put`,
--    `payload_put`).
-- 4. An extended header has at most 65,535 bytes (`ext_len_most`).
use Rattle.std.proofs.Common.{◌≡◌, ◌≤◌, ◌<◌, ℕ, ◌+◌, [], ◌∷◌, ◌++◌, List, length, drop, refl, sym, ap, ◌∙◌}
use Rattle.fv_base.proofs.Laws.{subst, arith, Bool, true, false, get_or, length-append, append_assoc, append-nil, drop_at, eqb-true, common_steps}
use Rattle.fv_base.proofs.Laws.{drop_more, drop_all, bytes_of, ext_limit, IsBytes, le, le_bytes, le_at, bytes_drop, le-le_bytes, two_bytes}
use Rattle.fv_head.specs.Words.{Extension, kept_payload, is_used_size, BeginNoEntry, SplitsEntries, IsExt, IsReadExt, payload_with, entry_bytes}
use Rattle.fv_head.specs.Words.{entries_bytes, entries_len, ext_len, ext_spelled}
use Rattle.fv_head.proofs.ExtLemmas.{begins, length-ext}

-- a number below 65536 is the number that its four bytes spell
four_bytes : (n : ℕ) → n < 65536 → le (le_bytes 4 n) ≡ n
four_bytes n small = grind (arith, common_steps)

-- a kept payload has the length of the payload
length-held : (kind : ℕ) (payload : List ℕ) → length (kept_payload kind payload) ≡ length payload
length-held kind payload = grind (arith, common_steps, eqb-true)

-- entries and their tail have together the length of the bytes that they split
length-entries : (es : List (ℕ × List ℕ)) (tail b : List ℕ) → SplitsEntries es tail b → entries_len es + length tail ≡ length b
length-entries [] tail b h = omega (arith, ap length h.0)
length-entries (e ∷ es) tail b (head, payload, rest, text, four, size, kind, kept, more) =
    let is = begins b head payload rest text four size in
    let same : length e.1 ≡ length payload = ap length kept ∙ length-held e.0 payload in
    omega (arith, is.long, same, length-entries es tail rest more)

-- a payload into which a used size is written has the length of the kept payload
length-payload_with : (used : ℕ) (e : ℕ × List ℕ) → length (payload_with used e) ≡ length e.1
length-payload_with used e = grind (arith, common_steps, eqb-true)

-- a payload into which a used size is written has the same kept payload
held-payload_with : (used : ℕ) (e : ℕ × List ℕ) (payload : List ℕ) → e.1 ≡ kept_payload e.0 payload
    → e.1 ≡ kept_payload e.0 (payload_with used e)
held-payload_with used e payload kept = grind (arith, common_steps, length-held)

-- entries that are written, followed by the tail, are read again as these entries and this tail
entries_again : (es : List (ℕ × List ℕ)) (tail b : List ℕ) (used : ℕ) → IsBytes b → length b ≤ ext_limit → SplitsEntries es tail b
    → SplitsEntries es tail (entries_bytes used es ++ tail)
entries_again [] tail b used small most h = (refl, subst BeginNoEntry h.0 h.1)
entries_again (e ∷ es) tail b used small most (head, payload, rest, text, four, size, kind, kept, more) =
    let is = begins b head payload rest text four size in
    let same : length e.1 ≡ length payload = ap length kept ∙ length-held e.0 payload in
    let n : ℕ = 4 + length e.1 in
    let kind_small : e.0 < 65536 = rw (← kind, ← is.kind) (two_bytes 2 b small) in
    let size_small : n < 65536 = omega (arith, is.long, same, most) in
    let header : List ℕ = le_bytes 2 n ++ le_bytes 2 e.0 in
    let body : List ℕ = payload_with used e in
    let long : length body ≡ length e.1 = length-payload_with used e in
    let behind : List ℕ = entries_bytes used es ++ tail in
    let rest_bytes : IsBytes rest = subst IsBytes (sym is.rest_is) (bytes_drop (le_at 0 2 b) b small) in
    let others = entries_again es tail rest used rest_bytes (omega (arith, is.long, most)) more in
    let joined : (header ++ body ++ entries_bytes used es) ++ tail ≡ header ++ (body ++ behind) =
    append_assoc (header ++ body) (entries_bytes used es) tail ∙ append_assoc header body behind in (
      header,
      body,
      behind,
      joined,
      refl,
      le-le_bytes 2 n size_small ∙ ap (λ (k : ℕ). 4 + k) (sym long),
      le-le_bytes 2 e.0 kind_small,
      held-payload_with used e payload kept,
      others,
    )

-- an extended header that is written is read again as this extended header, and has its length
pub ext_again : (x : Extension) (used : ℕ) → IsReadExt x → IsExt x (ext_spelled x used) × (length (ext_spelled x used) ≡ ext_len x)
unfolding ext_spelled
ext_again x used (b, small, is) =
    let name : List ℕ = bytes_of x.name in
    let whole : List ℕ = entries_bytes used x.entries ++ x.tail in
    let rest_small : IsBytes is.rest = subst IsBytes (behind x b is) (bytes_drop 20 b small) in
    let parts : length b ≡ 20 + length is.rest = omega
    (arith, ap length is.text, length-append name (is.head ++ is.rest), length-append is.head is.rest, is.name_length, is.head_length) in
    let again = entries_again x.entries x.tail is.rest used rest_small (omega (arith, parts, is.most)) is.entries in
    let source : entries_len x.entries + length x.tail ≡ length is.rest = length-entries x.entries x.tail is.rest is.entries in
    let made : entries_len x.entries + length x.tail ≡ length whole = length-entries x.entries x.tail whole again in
    let small_len : ext_len x < 65536 = omega (arith, parts, source, is.most) in
    let joined : name ++ le_bytes 4 (ext_len x) ++ entries_bytes used x.entries ++ x.tail ≡ name ++ (le_bytes 4 (ext_len x) ++ whole) =
    append_assoc (name ++ le_bytes 4 (ext_len x)) (entries_bytes used x.entries) x.tail
    ∙ append_assoc name (le_bytes 4 (ext_len x)) whole in
    let long : length (name ++ le_bytes 4 (ext_len x) ++ entries_bytes used x.entries ++ x.tail) ≡ ext_len x =
    ap length joined ∙ total (length name) (length whole) (ext_len x) (entries_len x.entries) (length x.tail) _ _
    (length-append name (le_bytes 4 (ext_len x) ++ whole)) (length-append (le_bytes 4 (ext_len x)) whole) is.name_length made refl in
    let ext : IsExt x (name ++ le_bytes 4 (ext_len x) ++ entries_bytes used x.entries ++ x.tail) = record {
      head = le_bytes 4 (ext_len x);
      rest = whole;
      text = joined;
      name_length = is.name_length;
      head_length = refl;
      size = four_bytes (ext_len x) small_len ∙ sym long;
      most = omega (arith, long, small_len);
      entries = again;
    } in
    (ext, long)
  where
    behind : (x : Extension) (b : List ℕ) (is : IsExt x b) → drop 20 b ≡ is.rest
    behind x b is =
        ap (drop 20) (is.text ∙ sym (append_assoc (bytes_of x.name) is.head is.rest))
        ∙ drop_at (bytes_of x.name ++ is.head) is.rest 20
        (omega (arith, length-append (bytes_of x.name) is.head, is.name_length, is.head_length))

    total : (n w l e t a c : ℕ) → a ≡ n + c → c ≡ 4 + w → n ≡ 16 → e + t ≡ w → l ≡ 20 + e + t → a ≡ l
    total n w l e t a c one two three four five = omega arith

-- ---- walks

-- the payload of a used-size entry is put as the four bytes of the used size
pub used_put : (used : ℕ) (e : ℕ × List ℕ) (kind : ℕ) (payload : List ℕ) (t : Bool) → t ≡ is_used_size kind payload → kind ≡ e.0
    → payload ≡ e.1 → t ≡ true → le_bytes 4 used ≡ payload_with used e
used_put used e kind payload t test kinds payloads on = grind (arith, common_steps)

-- the payload of another entry is put as it is
pub payload_put : (used : ℕ) (e : ℕ × List ℕ) (kind : ℕ) (payload : List ℕ) (t : Bool) → t ≡ is_used_size kind payload → kind ≡ e.0
    → payload ≡ e.1 → t ≡ false → payload ≡ payload_with used e
payload_put used e kind payload t test kinds payloads off = grind (arith, common_steps)

-- the length of the entries from an index on is the length of the entry there plus the length of the entries after it
pub entries_len_step : (es : List (ℕ × List ℕ)) (i : ℕ) (e : ℕ × List ℕ) → i < length es → e ≡ get_or es i e
    → entries_len (drop i es) ≡ (4 + length e.1) + entries_len (drop (i + 1) es)
entries_len_step es i e within is = grind (arith, common_steps, drop_more)

-- the entries so far and one more entry, with the entries that are left, are all entries
pub entries_step : (used : ℕ) (front : List ℕ) (es : List (ℕ × List ℕ)) (i : ℕ) (e : ℕ × List ℕ) → i < length es → e ≡ get_or es i e
    → front ++ entries_bytes used (drop i es) ≡ entries_bytes used es
    → (front ++ entry_bytes used e) ++ entries_bytes used (drop (i + 1) es) ≡ entries_bytes used es
entries_step used front es i e within item is = grind (arith, common_steps, append_assoc, drop_more)

-- if no entry is left, the bytes so far are the bytes of all entries
pub entries_end : (used : ℕ) (front : List ℕ) (es : List (ℕ × List ℕ)) (i : ℕ) → length es ≤ i
    → front ++ entries_bytes used (drop i es) ≡ entries_bytes used es → front ≡ entries_bytes used es
entries_end used front es i past is = grind (arith, common_steps, append-nil, drop_all)

-- an extended header has at most 65,535 bytes
pub ext_len_most : (x : Extension) → IsReadExt x → ext_len x ≤ ext_limit
ext_len_most x (b, small, is) = grind (arith, common_steps, length-entries, length-ext)
