-- The checks of a header hold exactly if the bytes begin with a volume, and the fields that are read are its fields.
-- The steps:
-- 1. The verdict is the first fault of the checks or, if all checks hold, an extent (`verdict_ok`, `verdict_err`,
--    `verdict_extent`).
-- 2. If the checks hold, the bytes begin with a volume that has the fields that are read (`front_found`).
-- 3. If bytes begin with a volume, its header lies within the bytes (`front_within`), the checks hold, and the verdict
--    is its extent (`front_only`).
-- 4. The fields of the volume's header have the values that are read at their offsets (`front_fields`).
use Rattle.std.proofs.Common.{◌≡◌, ◌≤◌, ℕ, ◌+◌, ◌-◌, ◌%◌, [], ◌∷◌, ◌++◌, rules, ◌==◌, if◌then◌else◌, leb-true}
use Rattle.fv_base.proofs.Laws.{List, length, take, refl, sym, ap, ◌∙◌, subst, arith, true, nat_le, is_some, Option, None, Some, Ok, Err, slice_index}
use Rattle.fv_base.proofs.Laws.{length-take-le, get_or-take, le-leb, eqb-true, eq-eqb, common_steps, bytes_eq-Decides, AllHold, outer_fault}
use Rattle.fv_base.proofs.Laws.{header_limit, IsBytes, le, field, le_at, up_to_8, all_hold, and_join, and_split, bytes_take, field-take, none_faulty}
use Rattle.fv_base.specs.declared.fault.Fault.{Fault}
use Rattle.fv_base.specs.declared.flash.FileSystem.{FileSystem}
use Rattle.fv_base.specs.declared.flash.Polarity.{Polarity}
use Rattle.fv_base.specs.inner.Verdicts.{first_fault}
use Rattle.fv_head.specs.Words.{Extension, HeadFields, IsHead, BeginsVolume, system_guid, has_signature, is_header_len, has_sum, has_block_map}
use Rattle.fv_head.specs.Words.{is_volume_len, head_checks, is_zero_pair, blocks_at, makes_up, file_system_at, header_len_at, volume_len_at}
use Rattle.fv_head.specs.Words.{ext_offset_at, ext_size_at, has_ext, polarity_of}
use Rattle.fv_head.specs.declared.extent.Extent.{Extent}
use Rattle.fv_head.specs.inner.HeadVerdicts.{head_verdict, extent_verdict, extent_or, extent_at}
use Rattle.fv_head.proofs.ExtLemmas.{some_has_ext, has_ext_holds, has_ext_first}
use Rattle.fv_head.proofs.BlockMapLemmas.{all_not_zero, block_map_is, last-injective, none_zero, zero_pair_is}
use Rattle.fv_base.specs.declared.fault.FaultKind.TheVariants as kinds

-- the fields that are read from a header of a known file system
abbrev pub fields_of : FileSystem → Option Extension → List ℕ → HeadFields
fields_of fs x b = record {
  zero_vector = field 0 16 b;
  file_system = fs;
  length = volume_len_at b;
  attributes = le_at 44 4 b;
  reserved = slice_index b 54;
  blocks = blocks_at (header_len_at b) b;
  ext = x;
}

-- if the verdict is an extent, there is no fault, and a file system is found that gives this extent
pub verdict_ok : (f : Option Fault) (b : List ℕ) (e : Extent) → extent_verdict f b ≡ Ok e
    → (f ≡ None) × (extent_or (file_system_at b) (outer_fault kinds.FileSystem 16) b ≡ Ok e)
verdict_ok f b e h = grind (arith, common_steps)

pub extent_ok : (o : Option FileSystem) (f : Fault) (b : List ℕ) (e : Extent) → extent_or o f b ≡ Ok e
    → (fs : FileSystem) × (o ≡ Some fs) × (extent_at fs b ≡ e)
extent_ok None f b e h = cc
extent_ok (Some fs) f b e h = (fs, refl, cc)

-- the verdict is the first fault or, if all checks hold, the extent for the file system that is found
pub verdict_err : (o : Option Fault) (b : List ℕ) (f : Fault) → o ≡ Some f → extent_verdict o b ≡ Err f
verdict_err o b f is = grind (arith, common_steps)

pub verdict_extent : (b : List ℕ) (fs : FileSystem) → first_fault (head_checks b) ≡ None → file_system_at b ≡ Some fs
    → head_verdict b ≡ Ok (extent_at fs b)
verdict_extent b fs none system = grind (arith, common_steps)

-- the checks of a header with this HeaderLength, FvLength and file system, each by the name of its field
pub record Checked (b : List ℕ) (n len : ℕ) (system : Option FileSystem) : Type 0 where
  pub front_within : nat_le 56 (length b) ≡ true
  pub signature : has_signature b ≡ true
  pub file_system : is_some system ≡ true
  pub revision : (slice_index b 55 == 2) ≡ true
  pub header_len : is_header_len n ≡ true
  pub header_within : nat_le n (length b) ≡ true
  pub sum : has_sum n b ≡ true
  pub block_map : has_block_map n b ≡ true
  pub volume_len : is_volume_len n len ≡ true
  pub volume_within : nat_le len (length b) ≡ true
  pub ext : has_ext n len b ≡ true

pub checked : (b : List ℕ) → AllHold (head_checks b) → Checked b (header_len_at b) (volume_len_at b) (file_system_at b)
checked b all = grind (arith, common_steps)

all_checked : (b : List ℕ) → Checked b (header_len_at b) (volume_len_at b) (file_system_at b) → AllHold (head_checks b)
all_checked b k = search rules

-- if the checks hold, the bytes begin with a volume that has the fields that are read
front_of : (b : List ℕ) (fs : FileSystem) → IsBytes b → file_system_at b ≡ Some fs → field 16 16 b ≡ system_guid fs
    → AllHold (head_checks b)
    → (x : Option Extension) × BeginsVolume (fields_of fs x b) (extent_at fs b) b
front_of b fs small is guid all =
    let n : ℕ = header_len_at b in
    let holds = checked b all in
    let kind = and_split _ _ holds.header_len in
    let kind_low = and_split _ _ kind.0 in
    let multiple : n % 8 ≡ 0 = eqb-true _ _ kind_low.0 in
    let least : 64 ≤ n = leb-true _ _ kind_low.1 in
    let most : n ≤ header_limit = leb-true _ _ kind.1 in
    let within : n ≤ length b = leb-true _ _ holds.header_within in
    let map = and_split _ _ holds.block_map in
    let made = and_split _ _ map.0 in
    let vol = and_split _ _ holds.volume_len in
    let vol_low = and_split _ _ vol.0 in
    let len : length (take n b) ≡ n = length-take-le n b within in
    let whole : volume_len_at b ≤ length b = leb-true _ _ holds.volume_within in
    let ext = some_has_ext (extent_at fs b) b whole holds.ext refl in
    let h : HeadFields = fields_of fs ext.0 b in
    let head : IsHead h (take n b) = record {
      bytes = bytes_take n b small;
      zero_vector = field-take 0 16 n b (omega arith);
      file_system = field-take 16 16 n b (omega arith) ∙ guid;
      volume_length = ap le (field-take 32 8 n b (omega arith));
      signature = field-take 40 4 n b (omega arith) ∙ (bytes_eq-Decides _ _).0 holds.signature;
      attributes = ap le (field-take 44 4 n b (omega arith));
      header_length = ap le (field-take 48 2 n b (omega arith)) ∙ sym len;
      reserved = get_or-take n b 54 0 (omega arith);
      revision = get_or-take n b 55 0 (omega arith) ∙ eqb-true _ _ holds.revision;
      block_map = block_map_is n b least multiple within ∙ ap (λ (p : ℕ × ℕ). blocks_at n b ++ (p ∷ [])) (zero_pair_is _ map.1);
      no_pair_of_zeros = none_zero _ made.0;
      sum = eqb-true _ _ holds.sum;
      multiple = rw len multiple;
      least = rw len least;
      most = rw len most;
      makes_up = eqb-true _ _ made.1;
      volume_multiple = eqb-true _ _ vol_low.0;
      volume_least = rw len (leb-true _ _ vol_low.1);
      volume_most = leb-true _ _ vol.1;
    } in
    let front : BeginsVolume h (extent_at fs b) b = record {
      head = head;
      long_enough = within;
      is_within = whole;
      ext = ext.1;
      length_is = refl;
      file_system = refl;
      polarity = refl;
    } in
    (ext.0, front)

-- a file system that is found has the GUID at offset 16
guid_found : (b : List ℕ) (fs : FileSystem) → file_system_at b ≡ Some fs → field 16 16 b ≡ system_guid fs
guid_found b fs is = search (rules, bytes_eq-Decides)

-- a file system whose GUID is at offset 16 is found
guid_finds : (b : List ℕ) (fs : FileSystem) → field 16 16 b ≡ system_guid fs → file_system_at b ≡ Some fs
guid_finds b fs is = grind (arith, common_steps, bytes_eq-Decides)

-- if the verdict is an extent, the bytes begin with a volume of this extent
pub front_found : (b : List ℕ) (e : Extent) → IsBytes b → head_verdict b ≡ Ok e
    → (x : Option Extension) × BeginsVolume (fields_of e.file_system x b) e b
front_found b e small h =
    let v = verdict_ok (first_fault (head_checks b)) b e h in
    let x = extent_ok (file_system_at b) _ b e v.1 in
    subst (λ (e : Extent). (y : Option Extension) × BeginsVolume (fields_of e.file_system y b) e b) x.2
    (front_of b x.0 small x.1 (guid_found b x.0 x.1) (all_hold (head_checks b) v.0))

-- the header of a volume lies within the bytes, and HeaderLength is its length
pub record Within (b : List ℕ) (e : Extent) : Type 0 where
  pub at : e.header_len ≡ header_len_at b
  pub least : 64 ≤ e.header_len
  pub multiple : e.header_len % 8 ≡ 0
  pub within : e.header_len ≤ length b

pub front_within : (b : List ℕ) (h : HeadFields) (e : Extent) → BeginsVolume h e b → Within b e
front_within b h e f =
    let len : length (take e.header_len b) ≡ e.header_len = length-take-le e.header_len b f.long_enough in
    let least : 64 ≤ e.header_len = rw (← len) f.head.least in
    record {
      at = sym (ap le (sym (field-take 48 2 e.header_len b (omega arith))) ∙ f.head.header_length ∙ len);
      least = least;
      multiple = rw len at f.head.multiple;
      within = f.long_enough;
    }

-- an extent is made of its fields
extent_is : (l n f : ℕ) (fs : FileSystem) (p : Polarity) (e : Extent) → l ≡ e.length → n ≡ e.header_len → f ≡ e.first → fs ≡ e.file_system
    → p ≡ e.polarity
    → (let made : Extent = record { length = l; header_len = n; first = f; file_system = fs; polarity = p } in made) ≡ e
extent_is l n f fs p e a b c d g = rw (a, b, c, d, g) refl

front_exact : (b : List ℕ) (h : HeadFields) (e : Extent) → header_len_at b ≡ e.header_len → 64 ≤ e.header_len → BeginsVolume h e b
    → head_verdict b ≡ Ok e
front_exact b h e same least f =
    let m : ℕ = e.header_len in
    let head = f.head in
    let len : length (take m b) ≡ m = length-take-le m b f.long_enough in
    let guid : field 16 16 b ≡ system_guid h.file_system = sym (field-take 16 16 m b (omega arith)) ∙ head.file_system in
    let system : file_system_at b ≡ Some h.file_system = guid_finds b h.file_system guid in
    let vol : volume_len_at b ≡ h.length = ap le (sym (field-take 32 8 m b (omega arith))) ∙ head.volume_length in
    let bits : le_at 44 4 b ≡ h.attributes = ap le (sym (field-take 44 4 m b (omega arith))) ∙ head.attributes in
    let multiple : m % 8 ≡ 0 = rw len at head.multiple in
    let most : m ≤ header_limit = rw len at head.most in
    let pairs = last-injective _ _ _ _ (sym (block_map_is m b least multiple f.long_enough) ∙ head.block_map) in
    let vol_least : m ≤ h.length = rw len at head.volume_least in
    let whole : h.length ≤ length b = rw (← f.length_is) f.is_within in
    let made_up : makes_up (blocks_at m b) h.length ≡ true =
    ap (λ (ps : List (ℕ × ℕ)). makes_up ps h.length) pairs.0
    ∙ and_join _ _ (all_not_zero h.blocks head.no_pair_of_zeros) (eq-eqb _ _ head.makes_up) in
    let last : is_zero_pair (le_at (m - 8) 4 b, le_at (m - 4) 4 b) ≡ true = ap is_zero_pair pairs.1 in
    let all : AllHold (head_checks b) = all_checked b (rw (same, vol, system) (record {
      front_within = le-leb 56 (length b) (omega (arith, f.long_enough));
      signature = (bytes_eq-Decides _ _).1 (sym (field-take 40 4 m b (omega arith)) ∙ head.signature);
      file_system = refl;
      revision = eq-eqb _ _ (sym (get_or-take m b 55 0 (omega arith)) ∙ head.revision);
      header_len = and_join _ _ (and_join _ _ (eq-eqb _ _ multiple) (le-leb _ _ least)) (le-leb _ _ most);
      header_within = le-leb _ _ f.long_enough;
      sum = eq-eqb _ _ head.sum;
      block_map = and_join (makes_up (blocks_at m b) (volume_len_at b)) _ (rw vol made_up) last;
      volume_len = and_join _ _ (and_join _ _ (eq-eqb _ _ head.volume_multiple) (le-leb _ _ vol_least)) (le-leb _ _ head.volume_most);
      volume_within = le-leb _ _ whole;
      ext = ap (λ (k : ℕ). has_ext m k b) (sym f.length_is) ∙ has_ext_holds h.ext e b f.ext;
    })) in
    let made : extent_at h.file_system b ≡ e =
    extent_is _ _ _ _ _ e (vol ∙ sym f.length_is) same
    (ap (λ (k : ℕ). if ext_offset_at b == 0 then k else up_to_8 (ext_offset_at b + ext_size_at b)) same
    ∙ has_ext_first h.ext e b least f.ext) (sym f.file_system) (ap polarity_of bits ∙ sym f.polarity) in
    rw (none_faulty (head_checks b) all, system) (ap Ok made)

-- if bytes begin with a volume, the verdict is its extent
pub front_only : (b : List ℕ) (h : HeadFields) (e : Extent) → BeginsVolume h e b → head_verdict b ≡ Ok e
front_only b h e f = let within = front_within b h e f in front_exact b h e (sym within.at) within.least f

-- header fields are made of their parts
pub fields_are : (z : List ℕ) (fs : FileSystem) (l a r : ℕ) (bs : List (ℕ × ℕ)) (x : Option Extension) (h : HeadFields) → h.zero_vector ≡ z
    → h.file_system ≡ fs → h.length ≡ l
    → h.attributes ≡ a → h.reserved ≡ r → h.blocks ≡ bs → h.ext ≡ x
    → h ≡ (let made : HeadFields =
    record { zero_vector = z; file_system = fs; length = l; attributes = a; reserved = r; blocks = bs; ext = x } in made)
fields_are z fs l a r bs x h p q s t u v w = rw (← p, ← q, ← s, ← t, ← u, ← v, ← w) refl

-- the fields of a volume's header have the values that are read at their offsets
pub front_fields : (b : List ℕ) (h : HeadFields) (e : Extent) → BeginsVolume h e b → h ≡ fields_of e.file_system h.ext b
front_fields b h e f =
    let head = f.head in
    let m : ℕ = e.header_len in
    let w = front_within b h e f in
    let pairs = last-injective _ _ _ _ (sym (block_map_is m b w.least w.multiple f.long_enough) ∙ head.block_map) in
    fields_are _ _ _ _ _ _ _ h
    (sym head.zero_vector ∙ field-take 0 16 m b (omega (arith, w.least)))
    (sym f.file_system)
    (sym head.volume_length ∙ ap le (field-take 32 8 m b (omega (arith, w.least))))
    (sym head.attributes ∙ ap le (field-take 44 4 m b (omega (arith, w.least))))
    (sym head.reserved ∙ get_or-take m b 54 0 (omega (arith, w.least)))
    (sym pairs.0 ∙ ap (λ (n : ℕ). blocks_at n b) w.at)
    refl
