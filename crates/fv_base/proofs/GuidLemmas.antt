-- The text of a GUID is the text of its UUID, and is read as this GUID again.
use Rattle.std.proofs.Common.{◌≡◌, ℕ, ◌∙◌, List, length, refl, sym, ap, Option, Some, None, option_map}
use Rattle.uuid.specs.Parts.{swap_fields}
use Rattle.uuid.specs.Text.{hyphenated_text, lower, by_index, parsed}
use Rattle.uuid.proofs.RoundTrips.{swap_twice}
use Rattle.uuid.proofs.TextLemmas.{by_index_length}
use Rattle.fv_base.specs.Words.{bytes_of, guid_text, guid_read}
use Rattle.fv_base.specs.declared.guid.Guid.{Guid}

-- the text of a GUID is the text of the UUID that holds its parts
pub text_is : (b : List ℕ) → hyphenated_text lower (swap_fields b) ≡ guid_text b
unfolding by_index guid_text
text_is b = refl

pub text_length : (b : List ℕ) → length (hyphenated_text lower b) ≡ 36
text_length b = by_index_length 36 _

-- a text that names the UUID of a GUID names the GUID
pub reads_again : (g : Guid) (text u : List ℕ) → length (bytes_of g) ≡ 16 → u ≡ swap_fields (bytes_of g) → Some u ≡ parsed text
    → guid_read text ≡ Some g
reads_again g text u long is reads =
    ap (λ (o : Option (List ℕ)). option_map (λ (v : List ℕ). let h : Guid = record { bytes = swap_fields v } in h) o) (sym reads)
    ∙ ap (λ (v : List ℕ). let h : Guid = record { bytes = v } in Some h) (ap swap_fields is ∙ swap_twice (bytes_of g) long)

-- a text that names no UUID names no GUID
pub names_none : (text : List ℕ) → ((u : List ℕ) × (parsed text ≡ Some u) → ⊥) → guid_read text ≡ None
names_none text none = go (parsed text) none where
  go : (o : Option (List ℕ)) → ((u : List ℕ) × (o ≡ Some u) → ⊥)
      → option_map (λ (v : List ℕ). let h : Guid = record { bytes = swap_fields v } in h) o ≡ None
  go None none = refl
  go (Some u) none = absurd (none (u, refl))
