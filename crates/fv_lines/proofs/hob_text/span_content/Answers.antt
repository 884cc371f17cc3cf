use Rattle.std.proofs.Common.{◌≡◌, ◌≢◌, ℕ, List, length, arith, length-drop, Result, Ok, length-take-le}
use Rattle.fv_base.proofs.Laws.{common_steps}
use Rattle.fv_base.specs.declared.fault.Fault.{Fault}
use Rattle.fv_head.specs.Words.{HeadFields, BeginsVolume}
use Rattle.fv_head.specs.declared.extent.Extent.{Extent}
use Rattle.fv_hob.specs.declared.span.Span.{Span}
use Rattle.fv_lines.specs.Words.{IsMapped, IsSpanContent, bytes_in_span}
use Rattle.fv_lines.specs.declared.hob_text.SpanContent.TheVariants.{Absent}
use Rattle.fv_lines.proofs.hob_text.span_content.Goals as goal

-- a span that is within the image has as many bytes there as its length says
part_len : (image : List ℕ) (base : ℕ) (s : Span) → IsMapped base (length image) s → length (bytes_in_span image base s) ≡ s.length
part_len image base s within = grind (arith, common_steps, length-take-le, length-drop)

-- if no volume of the span's length begins there, the volume is absent
absent_here : (image : List ℕ) (base : ℕ) (s : Span) (b : List ℕ) (r : Result Extent Fault)
    → IsMapped base (length image) s × (b ≡ bytes_in_span image base s)
    → ((h : HeadFields) (e : Extent) → BeginsVolume h e b → r ≡ Ok e) → ((e : Extent) → r ≡ Ok e → e.length ≢ s.length)
    → IsSpanContent image base s Absent
absent_here image base s b r (within, is) only other = grind (arith, part_len)

pub returns-in-Ok : goal.returns-in-Ok
returns-in-Ok c =
    let (within, is) = c.in-Some.ensures in
    let (h, begins) = c.in-Ok.ensures.found in
    (within, (h, c.in-Ok.extent, rw (← is) begins, rw (part_len c.args.image.now c.args.base c.args.span within) c.if-extent-span.true))

pub returns-in_default-verify_fv : goal.returns-in_default-verify_fv
returns-in_default-verify_fv c =
    absent_here c.args.image.now c.args.base c.args.span _ c.verify_fv.result c.in-Some.ensures c.verify_fv.ensures.only
    (λ e same len. c.if-extent-span.false (cc))

pub returns-in_default-verify_fv-2 : goal.returns-in_default-verify_fv-2
returns-in_default-verify_fv-2 c =
    absent_here c.args.image.now c.args.base c.args.span _ c.verify_fv.result c.in-Some.ensures c.verify_fv.ensures.only (λ e same len. cc)
