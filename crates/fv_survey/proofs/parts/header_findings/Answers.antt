use Rattle.std.proofs.Common.{ℕ, List, ap, not, refl, ◌∙◌}
use Rattle.fv_base.specs.declared.fault.FaultKind.TheVariants as kinds
use Rattle.fv_head.specs.Words.{is_volume_len, volume_len_at}
use Rattle.fv_survey.specs.Words.{has_blocks, has_zero_sum, header_findings, is_allowed, none}
use Rattle.fv_survey.proofs.FindingLaws.{one_more}
use Rattle.fv_survey.proofs.parts.header_findings.Goals as goal

pub returns : goal.returns
unfolding header_findings
returns c =
    let b : List ℕ = c.args.bytes.now in
    let s1 = c.with_if.ensures ∙ one_more b kinds.Truncated _ none 0 (ap not c.is_whole.ensures) refl in
    let s2 = c.with_if-2.ensures ∙ one_more b kinds.Signature _ c.with_if.result _ (ap not c.has_signature.ensures) s1 in
    let s3 = c.with_if-3.ensures ∙ one_more b kinds.FileSystem _ c.with_if-2.result _ (ap not (c.is_allowed.ensures ∙ ap is_allowed c.field.ensures.bytes)) s2 in
    let s4 = c.with_if-4.ensures ∙ one_more b kinds.Revision _ c.with_if-3.result _ refl s3 in
    let s5 = c.with_if-5.ensures ∙ one_more b kinds.HeaderLength _ c.with_if-4.result _ (ap not c.has_strict_len.ensures) s4 in
    let s6 = c.with_if-6.ensures ∙ one_more b kinds.HeaderSum _ c.with_if-5.result _ (ap not (c.has_zero_sum.ensures ∙ ap (λ (n : ℕ). has_zero_sum n b) c.header_end-header.ensures.is)) s5 in
    let s7 = c.with_if-7.ensures ∙ one_more b kinds.BlockMap _ c.with_if-6.result _ (ap not (c.has_blocks.ensures ∙ ap (λ (n : ℕ). has_blocks n b) c.header_end-header.ensures.is)) s6 in
    let s8 = c.with_if-8.ensures ∙ one_more b kinds.Length _ c.with_if-7.result _ (ap not (c.has_volume_len.ensures ∙ ap (λ (n : ℕ). is_volume_len n (volume_len_at b)) c.header_end-header.ensures.is)) s7 in
    c.with_if-9.ensures ∙ one_more b kinds.ExtHeader _ c.with_if-8.result _ (ap not c.has_ext.ensures) s8
