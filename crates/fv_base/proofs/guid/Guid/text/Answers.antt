use Rattle.std.proofs.Common.{◌≡◌, ◌∙◌, ℕ, List, sym, ap, subst, length, rules, Some}
use Rattle.fv_base.specs.Words.{guid_read}
use Rattle.fv_base.proofs.GuidLemmas.{text_is, text_length, reads_again}
use Rattle.fv_base.proofs.guid.Guid.text.Goals as goal

pub copy_from_slice-requires : goal.copy_from_slice-requires
copy_from_slice-requires c = sym (ap length (c.as_bytes.ensures.value ∙ c.encode_lower-written.ensures.text) ∙ text_length _)

pub returns-clause-text : goal.returns-clause-text
returns-clause-text c =
    c.copy_from_slice.ensures.after ∙ c.as_bytes.ensures.value ∙ c.encode_lower-written.ensures.text
    ∙ rw (c.hyphenated.ensures, c.from_bytes_le-uuid.ensures) (text_is c.args.self.bytes)

pub returns-clause-read : goal.returns-clause-read
returns-clause-read c =
    let same = c.copy_from_slice.ensures.after ∙ c.as_bytes.ensures.value in
    subst (λ (text : List ℕ). guid_read text ≡ Some c.args.self) (sym same)
    (reads_again c.args.self c.encode_lower-written.result.now _ (search rules) (c.hyphenated.ensures ∙ c.from_bytes_le-uuid.ensures)
    c.encode_lower-written.ensures.parsed)
