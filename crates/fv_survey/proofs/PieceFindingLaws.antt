-- The findings of a piece say what is broken: a rule of each kind in the set is broken (`findings_honest`), and if the
-- set is empty, the strict reading finds no fault (`none_strict`).
use Rattle.std.proofs.Common.{◌≡◌, ◌<◌, ◌+◌, ◌/◌, ◌*◌, ◌==◌, ◌⊎◌, ℕ, [], ◌∷◌, if◌then◌else◌, max, Bool, true, false}
use Rattle.std.proofs.lemmas.Nat.Bits.{bit_at_or, bit_at-lt, bit_at-zero, bit_at-pow_same, bit_at-pow_other}
use Rattle.std.specs.Prelude.{option_map, ◌^◌}
use Rattle.fv_base.proofs.Laws.{List, length, refl, sym, ap, ◌∙◌, subst, arith, common_steps, inl, inr, eq-eqb, eqb-true}
use Rattle.fv_base.proofs.Laws.{Check, Option, None, Some, all_are, all_are-true, all-all_are, bit_at, erased_byte, fault_number}
use Rattle.fv_base.proofs.Laws.{first_is, outer_fault, slice_index, up_is_not_down}
use Rattle.fv_base.specs.Words.{FailsAfter, check}
use Rattle.fv_base.specs.declared.fault.Fault.{Fault}
use Rattle.fv_base.specs.declared.fault.FaultKind.{FaultKind}
use Rattle.fv_base.specs.declared.fault.FaultKind.TheVariants as kinds
use Rattle.fv_base.specs.inner.Verdicts.{first_fault}
use Rattle.fv_file.specs.Words.{cell_checks, file_header_len_at, leading_count, state_checks, state_of}
use Rattle.fv_survey.proofs.StrictPieceLaws.{strict_is, header_used, strict_holds}
use Rattle.fv_survey.specs.Words.{HasStrictFault, IsBroken, damaged_piece, file_findings, file_piece, file_rules, has_finding}
use Rattle.fv_survey.specs.Words.{headed_piece, is_stub_state, lost_len, may_be_header, none, only, piece_by, piece_with, plain_piece}
use Rattle.fv_survey.specs.Words.{read_sizes, sizes_by, sound_piece, space_piece, strict_kind, system_by, with_broken, with_kind}
use Rattle.fv_survey.specs.inner.Strict.{IsStrict}
use Rattle.fv_survey.specs.declared.findings.Findings.{Findings}
use Rattle.fv_survey.specs.declared.pieces.Layout.{Layout}
use Rattle.fv_survey.specs.declared.pieces.Piece.{Piece}
use Rattle.fv_survey.specs.declared.pieces.Sizes.{Sizes}
use Rattle.fv_survey.specs.declared.pieces.Sort.TheVariants as sorts

-- ---- sets of kinds

-- the kind of fault with this number
kind_of : ℕ → FaultKind
kind_of n =
    if n == 1 then kinds.Truncated
    else (if n == 2 then kinds.Signature
    else (if n == 3 then kinds.FileSystem
    else (if n == 4 then kinds.Revision
    else (if n == 5 then kinds.HeaderLength
    else (if n == 6 then kinds.HeaderSum
    else (if n == 7 then kinds.BlockMap
    else (if n == 8 then kinds.Length
    else (if n == 9 then kinds.ExtHeader
    else (if n == 10 then kinds.FileState
    else (if n == 11 then kinds.FileHeaderSum
    else (if n == 12 then kinds.FileSize
    else (if n == 13 then kinds.LargeFile
    else (if n == 14 then kinds.FileSum
    else (if n == 15 then kinds.Fixed
    else (if n == 16 then kinds.FreeSpace
    else (if n == 17 then kinds.DuplicateName
    else (if n == 18 then kinds.TopFile
    else (if n == 19 then kinds.SectionSize
    else (if n == 20 then kinds.SectionTail
    else (if n == 21 then kinds.Depth
    else (if n == 22 then kinds.NoRoom
    else (if n == 23 then kinds.TopAlignment
    else (if n == 24 then kinds.OutOfMemory
    else (if n == 25 then kinds.ReadFault
    else kinds.WriteFault))))))))))))))))))))))))

numbered : (k : FaultKind) → kind_of (fault_number k) ≡ k
unfolding kind_of
numbered kinds.Truncated = refl
numbered kinds.Signature = refl
numbered kinds.FileSystem = refl
numbered kinds.Revision = refl
numbered kinds.HeaderLength = refl
numbered kinds.HeaderSum = refl
numbered kinds.BlockMap = refl
numbered kinds.Length = refl
numbered kinds.ExtHeader = refl
numbered kinds.FileState = refl
numbered kinds.FileHeaderSum = refl
numbered kinds.FileSize = refl
numbered kinds.LargeFile = refl
numbered kinds.FileSum = refl
numbered kinds.Fixed = refl
numbered kinds.FreeSpace = refl
numbered kinds.DuplicateName = refl
numbered kinds.TopFile = refl
numbered kinds.SectionSize = refl
numbered kinds.SectionTail = refl
numbered kinds.Depth = refl
numbered kinds.NoRoom = refl
numbered kinds.TopAlignment = refl
numbered kinds.OutOfMemory = refl
numbered kinds.ReadFault = refl
numbered kinds.WriteFault = refl

same_kind : (a b : FaultKind) → fault_number a ≡ fault_number b → a ≡ b
same_kind a b is = sym (numbered a) ∙ ap kind_of is ∙ numbered b

-- only the kind of a set with one kind is in it
pub in_one : (a k : FaultKind) → (bit_at (2 ^ fault_number k) (fault_number a) == 1) ≡ true → a ≡ k
in_one a k is = go (fault_number a == fault_number k) refl where
  go : (t : Bool) → (fault_number a == fault_number k) ≡ t → a ≡ k
  go true same = same_kind a k (eqb-true _ _ same)
  go false other =
      let none : bit_at (2 ^ fault_number k) (fault_number a) ≡ 0 =
      bit_at-pow_other (fault_number k) (fault_number a) (λ e. up_is_not_down _ (eq-eqb _ _ e) other) in
      absurd (up_is_not_down _ is (rw none refl))

-- a bit of two joined numbers is a bit of one of them
pub one_of_two : (x y : ℕ) → (max x y == 1) ≡ true → ((x == 1) ≡ true) ⊎ ((y == 1) ≡ true)
one_of_two x y is = grind (arith, common_steps, eqb-true, eq-eqb)

-- a kind in a set with one more kind is in the set, or is this kind
pub in_more : (a k : FaultKind) (set : Findings) → has_finding a (with_kind k set) ≡ true → (has_finding a set ≡ true) ⊎ (a ≡ k)
in_more a k set is =
    elim (one_of_two _ _ (rw bit_at_or at is)) [
      | inl before ↦ inl before
      | inr one ↦ inr (in_one a k one)
    ]

abbrev Broken : List (Check FaultKind) → FaultKind → Type 0
Broken cs a = FailsAfter (λ before. Unit {0}) cs a

-- a kind in a set with the kinds of the broken rules is in the set, or is the kind of a broken rule
in_broken : (a : FaultKind) (cs : List (Check FaultKind)) (set : Findings) → has_finding a (with_broken set cs) ≡ true
    → (has_finding a set ≡ true) ⊎ Broken cs a
in_broken a [] set is = inl is
in_broken a (c ∷ cs) set is = go c.holds refl (in_broken a cs (if c.holds then set else with_kind c.fault set) is) where
  later : Broken cs a → Broken (c ∷ cs) a
  later (before, d, after, text, u, fails, same) =
      (c ∷ before, d, after, ap (λ (l : List (Check FaultKind)). c ∷ l) text, tt, fails, same)

  go : (t : Bool) → c.holds ≡ t → (has_finding a (if t then set else with_kind c.fault set) ≡ true) ⊎ Broken cs a
      → (has_finding a set ≡ true) ⊎ Broken (c ∷ cs) a
  go true holds (inl before) = inl before
  go false fails (inl more) = elim (in_more a c.fault set more) [
    | inl before ↦ inl before
    | inr same ↦ inr ([], c, cs, refl, tt, fails, same)
  ]
  go t holds (inr broken) = inr (later broken)

-- a kind that is in a set stays in it
stays_in : (a : FaultKind) (cs : List (Check FaultKind)) (set : Findings) → has_finding a set ≡ true
    → has_finding a (with_broken set cs) ≡ true
stays_in a [] set is = is
stays_in a (c ∷ cs) set is = stays_in a cs (if c.holds then set else with_kind c.fault set) (go c.holds) where
  joined : (x y : ℕ) → y < 2 → (x == 1) ≡ true → (max x y == 1) ≡ true
  joined x y small one = grind (arith, common_steps, eqb-true, eq-eqb)

  go : (t : Bool) → has_finding a (if t then set else with_kind c.fault set) ≡ true
  go true = is
  go false = rw bit_at_or (joined _ _ (bit_at-lt _ _) is)

-- the kind of a set with one kind is in the set, and the empty set has no kind
pub in_only : (k : FaultKind) → has_finding k (only k) ≡ true
in_only k = rw (bit_at-pow_same (fault_number k)) refl

pub not_in_none : (a : FaultKind) → has_finding a none ≡ false
not_in_none a = rw (bit_at-zero (fault_number a)) refl

-- ---- each finding

-- the strict kind is the kind of the first fault
strict_stands : (layout : Layout) (r : List ℕ) (k : FaultKind) → may_be_header layout.polarity r ≡ true → strict_kind layout r ≡ Some k
    → HasStrictFault layout k r
strict_stands layout r k header is =
    go (first_fault (cell_checks (system_by layout.files) layout.polarity 0 r)) refl (sym (strict_is layout r) ∙ is)
  where
    go : (o : Option Fault) → first_fault (cell_checks (system_by layout.files) layout.polarity 0 r) ≡ o
        → option_map (λ (f : Fault). f.kind) o ≡ Some k → HasStrictFault layout k r
    go None first e = cc
    go (Some f) first e =
        (f, (header_used layout.polarity r header, first_is (cell_checks (system_by layout.files) layout.polarity 0 r) f first), cc)

-- where no header begins and not all bytes are erased, the strict fault is FreeSpace
space_stands : (layout : Layout) (r : List ℕ) → may_be_header layout.polarity r ≡ false → all_are (erased_byte layout.polarity) r ≡ false
    → HasStrictFault layout kinds.FreeSpace r
space_stands layout r none used = (
  outer_fault kinds.FreeSpace (0 + leading_count (erased_byte layout.polarity) r),
  (
    (λ all. up_is_not_down _ (all-all_are (erased_byte layout.polarity) r all) used),
    (
      [],
      check (may_be_header layout.polarity r) kinds.FreeSpace (0 + leading_count (erased_byte layout.polarity) r),
      state_checks (state_of layout.polarity (slice_index r 23)) (system_by layout.files) 0 r,
      refl,
      tt,
      none,
      refl,
    ),
  ),
  refl,
)

abbrev Honest : Layout → List ℕ → Piece → Type 0
Honest layout r piece = (kind : FaultKind) → has_finding kind piece.findings ≡ true → IsBroken layout kind r

none_honest : (layout : Layout) (r : List ℕ) (kind : FaultKind) → has_finding kind none ≡ true → IsBroken layout kind r
none_honest layout r kind is = absurd (up_is_not_down _ is (not_in_none kind))

one_honest : (layout : Layout) (r : List ℕ) (k kind : FaultKind) → HasStrictFault layout k r → has_finding kind (only k) ≡ true
    → IsBroken layout kind r
one_honest layout r k kind fault is = inl (subst (λ (z : FaultKind). HasStrictFault layout z r) (sym (in_one kind k is)) fault)

space_honest : (layout : Layout) (r : List ℕ) → may_be_header layout.polarity r ≡ false → Honest layout r (space_piece layout r)
unfolding space_piece plain_piece
space_honest layout r headless kind = go (all_are (erased_byte layout.polarity) r) refl _ where
  go : (all : Bool) → all_are (erased_byte layout.polarity) r ≡ all → (more : Bool)
      → has_finding kind ((if all then plain_piece sorts.Free (length r) none
      else (if more then plain_piece sorts.Free (leading_count (erased_byte layout.polarity) r / 8 * 8) (only kinds.FreeSpace)
      else plain_piece sorts.Lost (lost_len layout r) (only kinds.FreeSpace))).findings) ≡ true → IsBroken layout kind r
  go true e more is = none_honest layout r kind is
  go false e true is = one_honest layout r kinds.FreeSpace kind (space_stands layout r headless e) is
  go false e false is = one_honest layout r kinds.FreeSpace kind (space_stands layout r headless e) is

damaged_honest : (layout : Layout) (r : List ℕ) (k : FaultKind) → HasStrictFault layout k r → Honest layout r (damaged_piece k layout r)
unfolding damaged_piece plain_piece file_piece file_findings
damaged_honest layout r k fault kind = go (read_sizes layout (sizes_by layout.files r) r) refl where
  go : (o : Option Sizes) → read_sizes layout (sizes_by layout.files r) r ≡ o
      → has_finding kind ((piece_with o k layout r).findings) ≡ true → IsBroken layout kind r
  go None e is = one_honest layout r k kind fault is
  go (Some sizes) e is =
      elim (in_broken kind (file_rules layout (sizes_by layout.files r) sizes r) (only k) is) [
        | inl one ↦ one_honest layout r k kind fault one
        | inr broken ↦ inr (sizes, e, broken)
      ]

sound_honest : (layout : Layout) (r : List ℕ) → Honest layout r (sound_piece layout r)
unfolding sound_piece plain_piece file_piece
sound_honest layout r kind = go (is_stub_state (state_of layout.polarity (slice_index r 23))) where
  go : (t : Bool) → has_finding kind ((if t then plain_piece sorts.Stub (file_header_len_at r) none
      else file_piece layout (sizes_by layout.files r) none r).findings) ≡ true → IsBroken layout kind r
  go true is = none_honest layout r kind is
  go false is = none_honest layout r kind is

-- for each kind in the findings of a piece, a rule with this kind is broken
pub findings_honest : (layout : Layout) (r : List ℕ) → Honest layout r (piece_by layout r)
unfolding piece_by
findings_honest layout r = go (may_be_header layout.polarity r) refl where
  headed : may_be_header layout.polarity r ≡ true → (o : Option FaultKind) → strict_kind layout r ≡ o
      → Honest layout r (headed_piece o layout r)
  headed header None is = sound_honest layout r
  headed header (Some k) is = damaged_honest layout r k (strict_stands layout r k header is)

  go : (t : Bool) → may_be_header layout.polarity r ≡ t
      → Honest layout r (if t then headed_piece (strict_kind layout r) layout r else space_piece layout r)
  go true header = headed header (strict_kind layout r) refl
  go false none = space_honest layout r none

-- ---- no finding

-- a set with a kind is not empty
some_kind : (k : FaultKind) (set : Findings) → has_finding k set ≡ true → set ≡ none → ⊥
some_kind k set is none = up_is_not_down _ is (rw none (not_in_none k))

abbrev NoneStrict : Layout → List ℕ → Piece → Type 0
NoneStrict layout r piece = piece.findings ≡ none → IsStrict layout r

space_strict : (layout : Layout) (r : List ℕ) → NoneStrict layout r (space_piece layout r)
unfolding space_piece plain_piece
space_strict layout r = go (all_are (erased_byte layout.polarity) r) refl _ where
  go : (all : Bool) → all_are (erased_byte layout.polarity) r ≡ all → (more : Bool)
      → (if all then plain_piece sorts.Free (length r) none
      else (if more then plain_piece sorts.Free (leading_count (erased_byte layout.polarity) r / 8 * 8) (only kinds.FreeSpace)
      else plain_piece sorts.Lost (lost_len layout r) (only kinds.FreeSpace))).findings ≡ none → IsStrict layout r
  go true e more _ = inl (all_are-true (erased_byte layout.polarity) r e)
  go false e true is = absurd (some_kind kinds.FreeSpace _ (in_only kinds.FreeSpace) is)
  go false e false is = absurd (some_kind kinds.FreeSpace _ (in_only kinds.FreeSpace) is)

damaged_strict : (layout : Layout) (r : List ℕ) (k : FaultKind) → NoneStrict layout r (damaged_piece k layout r)
unfolding damaged_piece plain_piece file_piece file_findings
damaged_strict layout r k = go (read_sizes layout (sizes_by layout.files r) r) where
  go : (o : Option Sizes) → (piece_with o k layout r).findings ≡ none → IsStrict layout r
  go None is = absurd (some_kind k _ (in_only k) is)
  go (Some sizes) is =
      absurd (some_kind k _ (stays_in k (file_rules layout (sizes_by layout.files r) sizes r) (only k) (in_only k)) is)

-- if a piece has no findings, the strict reading finds no fault
pub none_strict : (layout : Layout) (r : List ℕ) → NoneStrict layout r (piece_by layout r)
unfolding piece_by
none_strict layout r = go (may_be_header layout.polarity r) where
  headed : (o : Option FaultKind) → strict_kind layout r ≡ o → NoneStrict layout r (headed_piece o layout r)
  headed None is = λ _. inr (strict_holds layout r is)
  headed (Some k) is = damaged_strict layout r k

  go : (t : Bool) → NoneStrict layout r (if t then headed_piece (strict_kind layout r) layout r else space_piece layout r)
  go true = headed (strict_kind layout r) refl
  go false = space_strict layout r
