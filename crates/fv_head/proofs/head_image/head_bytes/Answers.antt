use Rattle.std.proofs.Common.{◌≡◌, ◌++◌, ◌≤◌, ℕ}
use Rattle.fv_base.proofs.Laws.{◌∙◌, List, length, subst, sym, IfOk, IfOk-weaker, kept_whole}
use Rattle.fv_head.specs.Words.{IsCanonicalHead, extent_of, CanonicalRest, BeginsVolume, canonical_head, canonical_end, first_edge}
use Rattle.fv_head.proofs.HeadImageLemmas.{canonical_is, canonical_only, canonical_front}
use Rattle.fv_head.proofs.head_image.head_bytes.Goals.{After-finish}
use Rattle.fv_head.proofs.head_image.head_bytes.Goals as goal

-- the bytes that were put are the canonical head
is_head : (c : After-finish) → IfOk c.finish.result (λ bytes. bytes ≡ canonical_head c.args.head.now)
is_head c = kept_whole _ _ _ _ _ _ c.in_ok-out.ensures.0 c.in_ok-out.ensures.1 c.put_head.ensures.bytes c.finish.ensures.ok

pub returns-clause-head : goal.returns-clause-head
returns-clause-head c =
    let h = c.args.head.now in
    IfOk-weaker _ _ (IsCanonicalHead h) (λ bytes same. subst (IsCanonicalHead h) (sym same) (canonical_is h c.header_len.ensures.read))
    (is_head c)

pub returns-clause-only : goal.returns-clause-only
returns-clause-only c = λ other canonical.
    IfOk-weaker _ _ (λ bytes. bytes ≡ other) (λ bytes same. same ∙ sym (canonical_only c.args.head.now other canonical)) (is_head c)

pub returns-clause-bytes : goal.returns-clause-bytes
returns-clause-bytes c = is_head c

pub returns-clause-again : goal.returns-clause-again
returns-clause-again c =
    let h = c.args.head.now in
    let again : List ℕ → Type 0 = λ bytes.
    (rest : List ℕ) → CanonicalRest h.ext rest → canonical_end h h.ext ≤ h.length → h.length ≤ length (bytes ++ rest)
    → BeginsVolume h (extent_of h (first_edge h h.ext)) (bytes ++ rest) in
    IfOk-weaker _ _ again (λ bytes same. subst again (sym same)
    (λ rest there fits long. canonical_front h rest c.header_len.ensures.read c.put_head.ensures.ext there fits long)) (is_head c)
