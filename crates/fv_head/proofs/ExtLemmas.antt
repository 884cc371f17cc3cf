-- A volume has at most one extended header, and a check of the volume header decides whether this extended header is
-- right. The steps:
-- 1. All bytes split into some entries and a tail (`some_entries`), and only in one way (`one_entries`).
-- 2. Bytes with the right size are an extended header (`some_ext`), and the same bytes are an extended header with at
--    most one meaning (`one_ext`).
-- 3. A volume has at most one extended header (`one_has_ext`). The check holds exactly if the volume has an extended
--    header that is right, or ExtHeaderOffset is 0 (`some_has_ext`, `has_ext_holds`). The extended header decides
--    where the first file may begin (`has_ext_first`). Only the volume's own bytes decide this (`ext_same`).
-- 4. A reader counts the entries (`entry_counted`, `entries_counted`) and takes them one by one (`more_entries`,
--    `end_entries`), and the extended header that it has read is an extended header (`ext_from`).
use Rattle.std.proofs.Common.{◌≡◌, ◌≤◌, ◌<◌, ℕ, ◌+◌, ◌-◌, [], ◌∷◌, ◌++◌, rules, ◌==◌, ◌&&◌, ◌||◌, if◌then◌else◌, leb-true, add-sub_of_le}
use Rattle.fv_base.proofs.Laws.{zero, suc, List, length, take, drop, refl, sym, ap, ◌∙◌, subst, arith, inl, Bool, true, false, length-append}
use Rattle.fv_base.proofs.Laws.{length-drop, append_assoc, append-nil, drop-drop, nat_le, Option, Some, None, take_at, drop_at, take-append-drop}
use Rattle.fv_base.proofs.Laws.{length-take-le, take_all, le-leb, eqb-true, drop-append_seam, common_steps, drop-take, nat_tests, bytes_of, ext_limit}
use Rattle.fv_base.proofs.Laws.{le, field, le_at, up_to_8, and_join, and_split, field-append_front, field-take}
use Rattle.fv_base.specs.declared.guid.Guid.{Guid}
use Rattle.fv_head.specs.Words.{Extension, kept_payload, BeginNoEntry, SplitsEntries, IsExt, HasExt, ext_offset_at, ext_size_at, has_ext}
use Rattle.fv_head.specs.declared.extent.Extent.{Extent}

-- ---- entries

-- bytes begin with an entry: its size, its type and its payload, by their offsets
pub record Begins (b head payload rest : List ℕ) : Type 0 where
  pub size : le_at 0 2 b ≡ 4 + length payload
  pub kind : le_at 2 2 b ≡ le_at 2 2 head
  pub long : length b ≡ 4 + length payload + length rest
  pub payload_is : payload ≡ field 4 (le_at 0 2 b - 4) b
  pub rest_is : rest ≡ drop (le_at 0 2 b) b

pub begins : (b head payload rest : List ℕ) → b ≡ head ++ (payload ++ rest) → length head ≡ 4 → le_at 0 2 head ≡ 4 + length payload
    → Begins b head payload rest
begins b head payload rest text four size = rw text (
    let whole : List ℕ = head ++ (payload ++ rest) in
    let same : le_at 0 2 whole ≡ 4 + length payload = ap le (field-append_front 0 2 head (payload ++ rest) (omega (arith, four))) ∙ size in
    let behind : drop 4 whole ≡ payload ++ rest = drop_at head (payload ++ rest) 4 four in
    record {
      size = same;
      kind = ap le (field-append_front 2 2 head (payload ++ rest) (omega (arith, four)));
      long = omega (arith, length-append head (payload ++ rest), length-append payload rest, four);
      payload_is = sym (rw behind (take_at payload rest (le_at 0 2 whole - 4) (omega (arith, same))));
      rest_is = rw (same, ← drop-drop (length payload) 4 whole, behind, drop-append_seam);
    }
    )

-- bytes that begin with an entry are not bytes that begin with no entry
no_entry : (b head payload rest : List ℕ) → Begins b head payload rest → BeginNoEntry b → ⊥
no_entry b head payload rest is none = grind (arith, common_steps)

pair_is : (e f : ℕ × List ℕ) → e.0 ≡ f.0 → e.1 ≡ f.1 → e ≡ f
pair_is e f p q = ap (λ (n : ℕ). (n, e.1)) p ∙ ap (λ (xs : List ℕ). (f.0, xs)) q

-- bytes split into entries and a tail in at most one way
one_entries : (es fs : List (ℕ × List ℕ)) (tail other b : List ℕ) → SplitsEntries es tail b → SplitsEntries fs other b
    → (es ≡ fs) × (tail ≡ other)
one_entries [] [] tail other b first second = (refl, sym first.0 ∙ second.0)
one_entries [] (f ∷ fs) tail other b first (head, payload, rest, text, four, size, kind, kept, more) =
    absurd (no_entry b head payload rest (begins b head payload rest text four size) first.1)
one_entries (e ∷ es) [] tail other b (head, payload, rest, text, four, size, kind, kept, more) second =
    absurd (no_entry b head payload rest (begins b head payload rest text four size) second.1)
one_entries (e ∷ es) (f ∷ fs) tail other b (head, payload, rest, text, four, size, kind, kept, more)
    (head', payload', rest', text', four', size', kind', kept', more') =
    let first = begins b head payload rest text four size in
    let second = begins b head' payload' rest' text' four' size' in
    let payloads : payload ≡ payload' = first.payload_is ∙ sym second.payload_is in
    let rests : rest ≡ rest' = first.rest_is ∙ sym second.rest_is in
    let kinds : e.0 ≡ f.0 = sym kind ∙ sym first.kind ∙ second.kind ∙ kind' in
    let kepts : e.1 ≡ f.1 = kept ∙ ap (λ (n : ℕ). kept_payload n payload) kinds ∙ ap (kept_payload f.0) payloads ∙ sym kept' in
    let others = one_entries es fs tail other rest' (subst (SplitsEntries es tail) rests more) more' in
    (ap (λ (x : ℕ × List ℕ). x ∷ es) (pair_is e f kinds kepts) ∙ ap (λ (xs : List (ℕ × List ℕ)). f ∷ xs) others.0, others.1)

-- an entry at the front, and the entries and the tail of the bytes after it, split the bytes
entry_before : (b : List ℕ) (n : ℕ) (e : ℕ × List ℕ) (es : List (ℕ × List ℕ)) (tail : List ℕ) → n ≡ le_at 0 2 b → 4 ≤ n → n ≤ length b
    → e.0 ≡ le_at 2 2 b → e.1 ≡ kept_payload e.0 (field 4 (n - 4) b) → SplitsEntries es tail (drop n b) → SplitsEntries (e ∷ es) tail b
entry_before b n e es tail size least within kind kept more =
    let head : List ℕ = take 4 b in
    let payload : List ℕ = field 4 (n - 4) b in
    let four : length head ≡ 4 = length-take-le 4 b (omega (arith, least, within)) in
    let long : length payload ≡ n - 4 = length-take-le (n - 4) (drop 4 b) (omega (arith, length-drop 4 b, within)) in
    let rest_is : drop (n - 4) (drop 4 b) ≡ drop n b = rw (add-sub_of_le least) at (drop-drop (n - 4) 4 b) in
    let text : b ≡ head ++ (payload ++ drop n b) =
    sym (take-append-drop 4 b)
    ∙ ap (λ (xs : List ℕ). head ++ xs) (sym (take-append-drop (n - 4) (drop 4 b)) ∙ ap (λ (xs : List ℕ). payload ++ xs) rest_is) in (
      head,
      payload,
      drop n b,
      text,
      four,
      ap le (field-take 0 2 4 b (omega arith)) ∙ sym size ∙ omega (arith, least, long),
      ap le (field-take 2 2 4 b (omega arith)) ∙ sym kind,
      kept,
      more,
    )

-- bytes begin with an entry, or do not begin with an entry
data Starts (b : List ℕ) : Type 0 where
  none : BeginNoEntry b → Starts b
  one : 4 ≤ length b → 4 ≤ le_at 0 2 b → le_at 0 2 b ≤ length b → Starts b

starts : (b : List ℕ) → Starts b
starts b = grind (arith, common_steps, nat_tests)

-- bytes split into some entries and a tail
abbrev pub Split : List ℕ → Type 0
Split b = (es : List (ℕ × List ℕ)) × (tail : List ℕ) × SplitsEntries es tail b

-- an entry at the front, and a split of the bytes after this entry, are a split of all bytes
entry_and : (b : List ℕ) → 4 ≤ length b → 4 ≤ le_at 0 2 b → le_at 0 2 b ≤ length b → Split (drop (le_at 0 2 b) b) → Split b
entry_and b long least within (es, tail, more) =
    let n : ℕ = le_at 0 2 b in
    let e : ℕ × List ℕ = (le_at 2 2 b, kept_payload (le_at 2 2 b) (field 4 (n - 4) b)) in
    (e ∷ es, tail, entry_before b n e es tail refl least within refl refl more)

some_entries : (n : ℕ) (b : List ℕ) → length b ≤ n → Split b
some_entries zero b short = ([], b, (refl, inl (omega (arith, short))))
some_entries (suc n) b short =
    pick (starts b)
    (λ long least within. some_entries n (drop (le_at 0 2 b) b) (omega (arith, length-drop (le_at 0 2 b) b, short, least, within)))
  where
    pick : Starts b → (4 ≤ length b → 4 ≤ le_at 0 2 b → le_at 0 2 b ≤ length b → Split (drop (le_at 0 2 b) b)) → Split b
    pick (none is) more = ([], b, (refl, is))
    pick (one long least within) more = entry_and b long least within (more long least within)

-- ---- the extended header

guid_is : (g h : Guid) → bytes_of g ≡ bytes_of h → g ≡ h
guid_is g h same = ap (λ (bs : List ℕ). let made : Guid = record { bytes = bs } in made) same

extension_is : (x y : Extension) → x.name ≡ y.name → x.entries ≡ y.entries → x.tail ≡ y.tail → x ≡ y
extension_is x y p q r = grind (arith, common_steps)

-- the bytes of an extended header are its name, its size, and then its entries and its tail
rest_of : (x : Extension) (b : List ℕ) (is : IsExt x b) → (bytes_of x.name ≡ take 16 b) × (is.rest ≡ drop 20 b)
rest_of x b is =
    let name : List ℕ = bytes_of x.name in
    let first : take 16 b ≡ name = ap (take 16) is.text ∙ take_at name (is.head ++ is.rest) 16 is.name_length in
    let second : drop 16 b ≡ is.head ++ is.rest = ap (drop 16) is.text ∙ drop_at name (is.head ++ is.rest) 16 is.name_length in
    let third : drop 20 b ≡ is.rest = sym (drop-drop 4 16 b) ∙ ap (drop 4) second ∙ drop_at is.head is.rest 4 is.head_length in
    (sym first, sym third)

-- the same bytes are an extended header with at most one meaning
pub one_ext : (x y : Extension) (b : List ℕ) → IsExt x b → IsExt y b → x ≡ y
one_ext x y b is other =
    let first = rest_of x b is in
    let second = rest_of y b other in
    let names : x.name ≡ y.name = guid_is x.name y.name (first.0 ∙ sym second.0) in
    let entries = one_entries x.entries y.entries x.tail y.tail (drop 20 b) (subst (SplitsEntries x.entries x.tail) first.1 is.entries)
    (subst (SplitsEntries y.entries y.tail) second.1 other.entries) in
    extension_is x y names entries.0 entries.1

-- a name, a right size, and the entries and the tail after them are an extended header
pub ext_of : (b : List ℕ) (g : Guid) (es : List (ℕ × List ℕ)) (tail : List ℕ) → 20 ≤ length b → length b ≤ ext_limit
    → le_at 16 4 b ≡ length b → bytes_of g ≡ take 16 b
    → SplitsEntries es tail (drop 20 b) → IsExt (record { name = g; entries = es; tail = tail }) b
ext_of b g es tail least most size name entries = grind (arith, common_steps, take-append-drop, drop-drop, length-take-le, length-drop)

-- bytes with the right size are an extended header
some_ext : (b : List ℕ) → 20 ≤ length b → length b ≤ ext_limit → le_at 16 4 b ≡ length b → (x : Extension) × IsExt x b
some_ext b least most size =
    let g : Guid = record { bytes = take 16 b } in
    let found = some_entries (length (drop 20 b)) (drop 20 b) (omega arith) in
    (_, ext_of b g found.0 found.1 least most size refl found.2)

-- an extended header is 20 bytes, followed by the bytes of its entries and its tail
pub length-ext : (x : Extension) (b : List ℕ) → (is : IsExt x b) → length b ≡ 20 + length is.rest
length-ext x b is = grind (arith, common_steps, length-append)

-- ---- the place of the extended header

-- the bytes at ExtHeaderOffset are an extended header, after the volume header and within the volume
pub record Placed (x : Extension) (e : Extent) (b : List ℕ) : Type 0 where
  pub least : 20 ≤ ext_size_at b
  pub most : ext_size_at b ≤ ext_limit
  pub behind_header : e.header_len ≤ ext_offset_at b
  pub within : ext_offset_at b + ext_size_at b ≤ e.length
  pub size : le_at 16 4 (field (ext_offset_at b) (ext_size_at b) b) ≡ ext_size_at b
  pub first : e.first ≡ up_to_8 (ext_offset_at b + ext_size_at b)
  pub is_ext : IsExt x (field (ext_offset_at b) (ext_size_at b) b)

pub placed : (x : Extension) (e : Extent) (b : List ℕ) → HasExt (Some x) e b → Placed x e b
placed x e b (before, part, behind, text, at, low, high, is, first) =
    let least : 20 ≤ length part = omega (arith, length-ext x part is) in
    let moved : drop (length before) b ≡ part ++ behind =
    ap (drop (length before)) text ∙ drop_at before (part ++ behind) (length before) refl in
    let head : field 16 4 part ≡ is.head =
    ap (take 4) (ap (drop 16) is.text ∙ drop_at (bytes_of x.name) (is.head ++ is.rest) 16 is.name_length)
    ∙ take_at is.head is.rest 4 is.head_length in
    let size : ext_size_at b ≡ length part =
    ap (λ (n : ℕ). le_at (n + 16) 4 b) (sym at) ∙ ap le (ap (take 4) (sym (drop-drop 16 (length before) b) ∙ ap (drop 16) moved)
    ∙ field-append_front 16 4 part behind (omega (arith, least)) ∙ head) ∙ is.size in
    let part_is : field (ext_offset_at b) (ext_size_at b) b ≡ part =
    ap (λ (n : ℕ). field n (ext_size_at b) b) (sym at) ∙ ap (take (ext_size_at b)) moved ∙ take_at part behind (ext_size_at b) (sym size) in
    record {
      least = omega (arith, size, least);
      most = omega (arith, size, is.most);
      behind_header = omega (arith, at, low);
      within = omega (arith, at, size, high);
      size = ap (le_at 16 4) part_is ∙ ap le head ∙ is.size ∙ sym size;
      first = first ∙ ap (λ (n : ℕ). up_to_8 (n + length part)) at ∙ ap (λ (n : ℕ). up_to_8 (ext_offset_at b + n)) (sym size);
      is_ext = subst (IsExt x) (sym part_is) is;
    }

-- if ExtHeaderOffset is not 0, the volume has an extended header there
pub placed_there : (x : Option Extension) (e : Extent) (b : List ℕ) → HasExt x e b → (ext_offset_at b ≡ 0 → ⊥) → (y : Extension) × Placed y e b
placed_there None e b h some = absurd (some h.0)
placed_there (Some x) e b h some = (x, placed x e b h)

-- a volume has at most one extended header
pub one_has_ext : (x y : Option Extension) (e : Extent) (b : List ℕ) → 64 ≤ e.header_len → HasExt x e b → HasExt y e b → x ≡ y
one_has_ext None None e b least first second = refl
one_has_ext None (Some y) e b least first second = absurd (omega (arith, least, first.0, (placed y e b second).behind_header))
one_has_ext (Some x) None e b least first second = absurd (omega (arith, least, second.0, (placed x e b first).behind_header))
one_has_ext (Some x) (Some y) e b least first second =
    ap (λ (z : Extension). let A : Type 0 = Option Extension in let made : A = Some z in made)
    (one_ext x y (field (ext_offset_at b) (ext_size_at b) b) (placed x e b first).is_ext (placed y e b second).is_ext)

-- an extended header that lies after the volume header and within the volume is the volume's extended header
pub make_has_ext : (x : Extension) (e : Extent) (b : List ℕ) (n : ℕ) → e.length ≤ length b → e.header_len ≤ ext_offset_at b
    → ext_offset_at b + n ≤ e.length
    → e.first ≡ up_to_8 (ext_offset_at b + n) → IsExt x (field (ext_offset_at b) n b) → HasExt (Some x) e b
make_has_ext x e b n whole low high first is =
    let o : ℕ = ext_offset_at b in
    let before : length (take o b) ≡ o = length-take-le o b (omega (arith, whole, high)) in
    let long : length (field o n b) ≡ n = length-take-le n (drop o b) (omega (arith, length-drop o b, whole, high)) in
    let text : b ≡ take o b ++ (field o n b ++ drop n (drop o b)) =
    sym (take-append-drop o b) ∙ ap (λ (xs : List ℕ). take o b ++ xs) (sym (take-append-drop n (drop o b))) in (
      take o b,
      field o n b,
      drop n (drop o b),
      text,
      before,
      omega (arith, before, low),
      omega (arith, before, long, high),
      is,
      first ∙ sym (ap (λ (k : ℕ). up_to_8 (k + length (field o n b))) before ∙ ap (λ (k : ℕ). up_to_8 (o + k)) long),
    )

-- the parts of the check of an extended header of s bytes at offset o, after a header of n bytes, in a volume of len
-- bytes
record Tests (o n s len : ℕ) : Type 0 where
  pub behind_header : n ≤ o
  pub header_within : o + 20 ≤ len
  pub least : 20 ≤ s
  pub most : s ≤ ext_limit
  pub within : o + s ≤ len

tests_of : (o n s len : ℕ)
    → (nat_le n o && nat_le (o + 20) len && nat_le 20 s && nat_le s ext_limit && nat_le (o + s) len) ≡ true → Tests o n s len
tests_of o n s len h = grind (arith, common_steps, and_split, leb-true)

tests_hold : (o n s len : ℕ) → n ≤ o → o + 20 ≤ len → 20 ≤ s → s ≤ ext_limit → o + s ≤ len
    → (nat_le n o && nat_le (o + 20) len && nat_le 20 s && nat_le s ext_limit && nat_le (o + s) len) ≡ true
tests_hold o n s len a b c d e = grind (arith, common_steps, and_join, le-leb)

-- if the check holds, the volume has an extended header, or its ExtHeaderOffset is 0
pub some_has_ext : (e : Extent) (b : List ℕ) → e.length ≤ length b → has_ext e.header_len e.length b ≡ true
    → e.first ≡ (if ext_offset_at b == 0 then e.header_len else up_to_8 (ext_offset_at b + ext_size_at b))
    → (x : Option Extension) × HasExt x e b
some_has_ext e b whole holds first = go (ext_offset_at b == 0) refl holds first where
  go : (t : Bool) → (ext_offset_at b == 0) ≡ t
      → (t || (nat_le e.header_len (ext_offset_at b) && nat_le (ext_offset_at b + 20) e.length && nat_le 20 (ext_size_at b)
      && nat_le (ext_size_at b) ext_limit
      && nat_le (ext_offset_at b + ext_size_at b) e.length)) ≡ true
      → e.first ≡ (if t then e.header_len else up_to_8 (ext_offset_at b + ext_size_at b)) → (x : Option Extension) × HasExt x e b
  go true is holds first = (None, (eqb-true _ _ is, first))
  go false is holds first =
      let o : ℕ = ext_offset_at b in
      let n : ℕ = ext_size_at b in
      let t = tests_of o e.header_len n e.length holds in
      let part : List ℕ = field o n b in
      let long : length part ≡ n = length-take-le n (drop o b) (omega (arith, length-drop o b, whole, t.within)) in
      let size : le_at 16 4 part ≡ length part = inner o n b t.least ∙ sym long in
      let x = some_ext part (omega (arith, long, t.least)) (omega (arith, long, t.most)) size in
      (Some x.0, make_has_ext x.0 e b n whole t.behind_header t.within first x.1)
    where
      inner : (o n : ℕ) (b : List ℕ) → 20 ≤ n → le_at 16 4 (field o n b) ≡ le_at (o + 16) 4 b
      inner o n b least = ap le (field-take 16 4 n (drop o b) (omega (arith, least)) ∙ ap (take 4) (drop-drop 16 o b))

-- if the volume has an extended header, or its ExtHeaderOffset is 0, the check holds
pub has_ext_holds : (x : Option Extension) (e : Extent) (b : List ℕ) → HasExt x e b → has_ext e.header_len e.length b ≡ true
has_ext_holds None e b h = rw h.0 refl
has_ext_holds (Some x) e b h =
    let p = placed x e b h in
    or_right (ext_offset_at b == 0) _ (tests_hold (ext_offset_at b) e.header_len (ext_size_at b) e.length p.behind_header
    (omega (arith, p.least, p.within)) p.least p.most p.within)
  where
    or_right : (s t : Bool) → t ≡ true → (s || t) ≡ true
    or_right true t is = refl
    or_right false t is = is

-- the first file may begin after the extended header, or after the volume header if ExtHeaderOffset is 0
pub has_ext_first : (x : Option Extension) (e : Extent) (b : List ℕ) → 64 ≤ e.header_len → HasExt x e b
    → (if ext_offset_at b == 0 then e.header_len else up_to_8 (ext_offset_at b + ext_size_at b)) ≡ e.first
has_ext_first None e b least h = rw h.0 (sym h.1)
has_ext_first (Some x) e b least h =
    let p = placed x e b h in
    rw (not_zero (ext_offset_at b) (omega (arith, least, p.behind_header))) (sym p.first)
  where
    not_zero : (o : ℕ) → 0 < o → (o == 0) ≡ false
    not_zero o some = grind (arith, nat_tests)

-- only the volume's own bytes decide which extended header it has
pub ext_same : (x : Option Extension) (e : Extent) (b c : List ℕ) → 64 ≤ e.header_len → e.header_len ≤ e.length → HasExt x e b
    → e.length ≤ length c → take e.length c ≡ take e.length b
    → HasExt x e c
ext_same x e b c least within h long same = go x h where
  offset : ext_offset_at c ≡ ext_offset_at b
  offset = ap le (sym (field-take 52 2 e.length c (omega (arith, least, within))) ∙ ap (field 52 2) same
      ∙ field-take 52 2 e.length b (omega (arith, least, within)))

  go : (x : Option Extension) → HasExt x e b → HasExt x e c
  go None h = (offset ∙ h.0, h.1)
  go (Some x) h =
      let p = placed x e b h in
      let n : ℕ = ext_size_at b in
      let o : ℕ = ext_offset_at b in
      let part : field (ext_offset_at c) n c ≡ field o n b =
      ap (λ (k : ℕ). field k n c) offset ∙ sym (field-take o n e.length c p.within) ∙ ap (field o n) same ∙ field-take o n e.length b p.within in
      make_has_ext x e c n long (omega (arith, offset, p.behind_header)) (omega (arith, offset, p.within))
      (p.first ∙ ap (λ (k : ℕ). up_to_8 (k + n)) (sym offset)) (subst (IsExt x) (sym part) p.is_ext)

-- ---- reading

-- entries and a tail that split the rest, with `count` entries before the rest, split all bytes
abbrev pub EntriesLeft : ℕ → List ℕ → List ℕ → Type 0
EntriesLeft count bytes rest =
    (es : List (ℕ × List ℕ)) (tail : List ℕ) → SplitsEntries es tail rest
    → (all : List (ℕ × List ℕ)) × SplitsEntries all tail bytes × (length all ≡ count + length es)

-- one more entry is counted, and the bytes after it are left
pub entry_counted : (count n : ℕ) (bytes rest behind : List ℕ) → behind ≡ drop n rest → n ≡ le_at 0 2 rest → 4 ≤ n → n ≤ length rest
    → EntriesLeft count bytes rest → EntriesLeft (count + 1) bytes behind
entry_counted count n bytes rest behind back size least within sofar es tail more =
    let e : ℕ × List ℕ = (le_at 2 2 rest, kept_payload (le_at 2 2 rest) (field 4 (n - 4) rest)) in
    let all = sofar (e ∷ es) tail (entry_before rest n e es tail size least within refl refl (subst (SplitsEntries es tail) back more)) in
    (all.0, all.1, omega (arith, all.2))

-- if the rest begins with no entry, all entries are counted
pub entries_counted : (count : ℕ) (bytes rest : List ℕ) → EntriesLeft count bytes rest → BeginNoEntry rest
    → (es : List (ℕ × List ℕ)) (tail : List ℕ) → SplitsEntries es tail bytes → count ≡ length es
entries_counted count bytes rest sofar ended es tail split =
    let all = sofar [] rest (refl, ended) in
    omega (arith, all.2, ap length (one_entries all.0 es rest tail bytes all.1 split).0)

-- an entry that is read is added to the entries so far; with the entries of the rest, these entries split all bytes
pub more_entries : (items new : List (ℕ × List ℕ)) (e : ℕ × List ℕ) (bytes rest behind entry : List ℕ) (n : ℕ) → new ≡ items ++ (e ∷ [])
    → behind ≡ drop n rest → entry ≡ take n rest
    → n ≡ le_at 0 2 rest → 4 ≤ n → n ≤ length rest → e.0 ≡ le_at 2 2 entry → e.1 ≡ kept_payload (le_at 2 2 entry) (drop 4 entry)
    → ((es : List (ℕ × List ℕ)) (tail : List ℕ) → SplitsEntries es tail rest → SplitsEntries (items ++ es) tail bytes)
    → (es : List (ℕ × List ℕ)) (tail : List ℕ) → SplitsEntries es tail behind → SplitsEntries (new ++ es) tail bytes
more_entries items new e bytes rest behind entry n pushed back front size least within kind kept sofar es tail more =
    let kind_is : e.0 ≡ le_at 2 2 rest = kind ∙ ap (le_at 2 2) front ∙ ap le (field-take 2 2 n rest (omega (arith, least))) in
    let payload : drop 4 entry ≡ field 4 (n - 4) rest =
    ap (drop 4) front ∙ ap (λ (k : ℕ). drop 4 (take k rest)) (omega (arith, least)) ∙ drop-take 4 (n - 4) rest in
    let kept_is : e.1 ≡ kept_payload e.0 (field 4 (n - 4) rest) =
    kept ∙ ap (λ (k : ℕ). kept_payload k (drop 4 entry)) (sym kind) ∙ ap (kept_payload e.0) payload in
    let one = entry_before rest n e es tail size least within kind_is kept_is (subst (SplitsEntries es tail) back more) in
    let joined : items ++ (e ∷ es) ≡ new ++ es =
    sym (append_assoc items (e ∷ []) es) ∙ ap (λ (xs : List (ℕ × List ℕ)). xs ++ es) (sym pushed) in
    subst (λ (xs : List (ℕ × List ℕ)). SplitsEntries xs tail bytes) joined (sofar (e ∷ es) tail one)

-- if the rest begins with no entry, the entries so far are all entries, and the rest is the tail
pub end_entries : (items : List (ℕ × List ℕ)) (bytes rest : List ℕ)
    → ((es : List (ℕ × List ℕ)) (tail : List ℕ) → SplitsEntries es tail rest → SplitsEntries (items ++ es) tail bytes)
    → BeginNoEntry rest → SplitsEntries items rest bytes
end_entries items bytes rest sofar ended =
    subst (λ (xs : List (ℕ × List ℕ)). SplitsEntries xs rest bytes) (append-nil items) (sofar [] rest (refl, ended))

-- the name, the size, and the entries and the tail that were read from the rest are the extended header
pub ext_from : (b : List ℕ) (g : Guid) (es : List (ℕ × List ℕ)) (tail : List ℕ) → 20 ≤ length b → length b ≤ ext_limit
    → le_at 16 4 b ≡ length b → bytes_of g ≡ take 16 b
    → SplitsEntries es tail (take (length b - 20) (drop 20 b)) → IsExt (record { name = g; entries = es; tail = tail }) b
ext_from b g es tail least most size name entries = search (rules, ext_of, take_all, length-drop)
