-- After each piece of text, a decoder holds the bytes that the text so far spells and at most one digit that waits,
-- unless the text is wrong or spells too many bytes. At the end, this decides whether the text is accepted.
use Rattle.std.proofs.Common.{◌≡◌, ◌<◌, ◌≤◌, ◌⊎◌, [], ℕ, ◌+◌, ◌/◌, ◌++◌, ◌==◌, List, Bool, true, false, not, refl, sym, ap, subst, ◌∙◌}
use Rattle.std.proofs.Common.{append_assoc, append-nil, length-append, arith, length}
use Rattle.fv_base.proofs.Laws.{common_steps, Decides-eqb, nat_tests, volume_limit, up_is_not_down}
use Rattle.fv_text.specs.Words.{DigitsSpell, squeezed}
use Rattle.fv_text.specs.declared.hex_text.Decoder.{Decoder}
use Rattle.fv_text.specs.inner.HexDecoding.{AddsDigits, Decodes, DecodesPairs, HoldsDigits, SpellsNothing}
use Rattle.fv_text.proofs.HexDigitLemmas.{odd_reads_nothing, reads_count, reads_joined, spoilt_behind, spoilt_more}
use Rattle.fv_text.proofs.WhiteSpaceLemmas.{squeezed_more}

-- the digits of a text and of the next piece are the digits decoded before, the digits of the pairs in this piece, and
-- the digits that wait
joins : (before text waiting all digits kept front : List ℕ) → squeezed before ≡ front ++ waiting → all ≡ waiting ++ squeezed text
    → all ≡ digits ++ kept → squeezed (before ++ text) ≡ front ++ (digits ++ kept)
joins before text waiting all digits kept front was joined split = grind (arith, common_steps, squeezed_more, append_assoc)

-- if the digits that waited and the digits of the next piece are pairs that were decoded, the decoder holds the bytes
-- of all the text so far
pub taken : (before text waiting all digits kept left held holds : List ℕ) (was_long is_long : Bool)
    → HoldsDigits was_long held waiting (squeezed before) → AddsDigits was_long is_long held holds digits → all ≡ waiting ++ squeezed text
    → all ≡ digits ++ kept → left ≡ kept → HoldsDigits is_long holds left (squeezed (before ++ text))
taken before text waiting all digits kept left held holds was_long is_long h adds joined split left_is = record {
  decoded = h.decoded ++ digits;
  bytes = h.bytes ++ adds.more;
  joined =
      joins before text waiting all digits kept h.decoded h.joined joined split
      ∙ sym (append_assoc h.decoded digits kept)
      ∙ ap (λ (l : List ℕ). (h.decoded ++ digits) ++ l) (sym left_is);
  reads = reads_joined h.decoded digits h.bytes adds.more h.reads adds.reads;
  kept = λ short. let (was_short, same) = adds.kept short in same ∙ ap (λ (l : List ℕ). l ++ adds.more) (h.kept was_short);
  many = λ long. many_more was_long h.bytes adds.more (h.many)
      (λ was_short. subst (λ (l : List ℕ). volume_limit < length (l ++ adds.more)) (h.kept was_short) (adds.many long was_short));
} where
  many_more : (flag : Bool) (bytes more : List ℕ) → (flag ≡ true → volume_limit < length bytes)
      → (flag ≡ false → volume_limit < length (bytes ++ more)) → volume_limit < length (bytes ++ more)
  many_more true bytes more were are = let lt = were refl in let long = length-append bytes more in omega (arith, lt, long)
  many_more false bytes more were are = are refl

-- if these pairs cannot begin a text, all the text so far cannot
pub taken_wrong : (before text waiting all digits kept held : List ℕ) (was_long : Bool)
    → HoldsDigits was_long held waiting (squeezed before)
    → SpellsNothing digits → all ≡ waiting ++ squeezed text → all ≡ digits ++ kept → SpellsNothing (squeezed (before ++ text))
taken_wrong before text waiting all digits kept held was_long h spoilt joined split =
    subst SpellsNothing (sym (joins before text waiting all digits kept h.decoded h.joined joined split))
    (spoilt_behind h.decoded (digits ++ kept) h.bytes h.reads (spoilt_more digits kept spoilt))

-- the decoder keeps the bytes that it holds, unless they and the bytes of its digits are more than a volume may have
abbrev pub MakesRoom : Decoder → Decoder → Type 0
MakesRoom old room =
    (room.digits.items ≡ old.digits.items)
    × (((room.is_long ≡ old.is_long) × (room.bytes.items ≡ old.bytes.items))
    ⊎ ((room.is_long ≡ true) × (volume_limit < length old.bytes.items + length old.digits.items / 2)))

-- the bytes of the pairs are put after the bytes that were kept
adds_pairs : (old room : Decoder) (holds more : List ℕ) → MakesRoom old room → DigitsSpell old.digits.items more
    → holds ≡ room.bytes.items ++ more → AddsDigits old.is_long room.is_long old.bytes.items holds old.digits.items
adds_pairs old room holds more made reads is = grind (arith, common_steps, up_is_not_down, reads_count, length-append)

-- a flag that is the contrary of another flag
turned : (flag all : Bool) → flag ≡ not all → (flag ≡ true → all ≡ false) × (flag ≡ false → all ≡ true)
turned flag all is = grind (arith, common_steps, up_is_not_down)

-- all pairs were decoded, or one of them is not a byte
pub pairs_decoded : (old room new : Decoder) (seen : List ℕ) (all : Bool) → MakesRoom old room → seen ≡ room.digits.items
    → (all ≡ true → (more : List ℕ) × DigitsSpell seen more × (new.bytes.items ≡ room.bytes.items ++ more))
    → (all ≡ false → SpellsNothing seen) → new.is_wrong ≡ not all → new.is_long ≡ room.is_long → DecodesPairs old new
pairs_decoded old room new seen all made seen_is read wrong flag long =
    let digits : seen ≡ old.digits.items = seen_is ∙ made.0 in
    record {
      wrong = λ up. subst SpellsNothing digits (wrong ((turned new.is_wrong all flag).0 up));
      right = λ down.
          let (more, reads, is) = read ((turned new.is_wrong all flag).1 down) in
          subst (λ (b : Bool). AddsDigits old.is_long b old.bytes.items new.bytes.items old.digits.items) (sym long)
          (adds_pairs old room new.bytes.items more made (subst (λ (l : List ℕ). DigitsSpell l more) digits reads) is);
    }

-- a list that is not empty and has at most one item has one item
pub one_waits : (value empty : Bool) (n len : ℕ) → value ≡ true → value ≡ not empty → empty ≡ (n == 0) → n ≡ len → n ≤ 1 → len ≡ 1
one_waits value empty n len up is empty_is count few = grind (arith, common_steps, turned, nat_tests)

-- a list that is said to be empty is empty
pub none_waits : (value empty : Bool) (n : ℕ) (l : List ℕ) → value ≡ false → value ≡ not empty → empty ≡ (n == 0) → n ≡ length l → l ≡ []
none_waits value empty n l down is empty_is count = grind (arith, common_steps, Decides-eqb, turned)

-- a text that was wrong is still wrong with the next piece
pub stays_wrong : (d : Decoder) (before text : List ℕ) → d.is_wrong ≡ true → Decodes d before → Decodes d (before ++ text)
stays_wrong d before text wrong so_far = record {
  wrong = λ up. subst SpellsNothing (sym (squeezed_more before text)) (spoilt_more (squeezed before) (squeezed text) (so_far.wrong up));
  right = λ down. absurd (up_is_not_down d.is_wrong wrong down);
  small = so_far.small;
  waiting = so_far.waiting;
}

-- a text that is wrong does not spell bytes
pub spoilt_is_no_text : (text : List ℕ) → SpellsNothing (squeezed text) → (bytes : List ℕ) → DigitsSpell (squeezed text) bytes → ⊥
spoilt_is_no_text text spoilt = λ bytes reads.
    spoilt [] bytes (subst (λ (l : List ℕ). DigitsSpell l bytes) (sym (append-nil (squeezed text))) reads)

-- a text after which a digit waits does not spell bytes
pub odd_is_no_text : (text waiting held : List ℕ) (is_long : Bool) → length waiting ≡ 1 → HoldsDigits is_long held waiting (squeezed text)
    → (bytes : List ℕ) → DigitsSpell (squeezed text) bytes → ⊥
odd_is_no_text text waiting held is_long one h bytes reads = grind (arith, common_steps, odd_reads_nothing)

-- a text after which no digit waits spells the bytes that are held
pub whole_reads : (text waiting held : List ℕ) (is_long : Bool) → waiting ≡ [] → (h : HoldsDigits is_long held waiting (squeezed text))
    → DigitsSpell (squeezed text) h.bytes
whole_reads text waiting held is_long none h = grind (arith, common_steps, append-nil)
