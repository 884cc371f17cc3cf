use Rattle.std.proofs.Common.{◌≡◌, ◌+◌, ◌-◌, ℕ, [], ◌++◌, replicate, sym, ap, ◌∙◌, arith, append_assoc, Option, None, Some}
use Rattle.fv_base.proofs.Laws.{option_copied, erased_byte, up_to_8}
use Rattle.fv_base.specs.declared.flash.Polarity.{Polarity}
use Rattle.fv_file.specs.Words.{pad_head_of}
use Rattle.fv_head.specs.Words.{Extension, HeadFields, header_len_of, canonical_end, first_edge, ext_len, ext_spelled, polarity_of}
use Rattle.fv_canon.specs.Words.{ext_pad}
use Rattle.fv_canon.proofs.pads_and_headers.put_ext_pad.Goals as goal

-- without an extended header, no bytes are between the header and the files
none_text : (p : Polarity) (h : HeadFields) (x : Option Extension) (used n : ℕ) → x ≡ None
    → ext_pad p x used ++ replicate (first_edge h x - canonical_end h x) n ≡ []
unfolding ext_pad
none_text p h x used n e =
    let none : first_edge h None - canonical_end h None ≡ 0 = omega arith in rw e (ap (λ (m : ℕ). replicate m n) none)

-- an extended header is between the header of its pad and the filler before the files
some_text : (p : Polarity) (h : HeadFields) (x : Option Extension) (y : Extension) (used n : ℕ) → x ≡ Some y
    → ext_pad p x used ++ replicate (first_edge h x - canonical_end h x) n
    ≡ pad_head_of (24 + ext_len y) p
    ++ (ext_spelled y used ++ replicate (up_to_8 (header_len_of h + 24 + ext_len y) - (header_len_of h + 24 + ext_len y)) n)
unfolding ext_pad
some_text p h x y used n e = rw e (simp append_assoc)

pub returns-in_default : goal.returns-in_default
returns-in_default g c =
    let none : c.args.head.now.ext ≡ None = sym c.ext.ensures ∙ ap option_copied c.in_default.is in
    let p : Polarity = polarity_of c.args.head.now.attributes in
    rw (none_text p c.args.head.now c.args.head.now.ext c.args.used (erased_byte p) none) (g.S.Sink.laws.none c.args.out.now)

pub returns-in-Some : goal.returns-in-Some
returns-in-Some g c =
    let h : HeadFields = c.args.head.now in
    let p : Polarity = polarity_of h.attributes in
    let polar = c.polarity-polarity.ensures ∙ ap polarity_of c.attributes.ensures in
    let len = c.from-len.ensures ∙ c.len_of_ext.ensures.len in
    let head = c.put.ensures in
    let filler = c.fill.ensures in
    let laws = g.S.Sink.laws in
    rw (some_text p h h.ext c.in-Some.ext.now c.args.used (erased_byte p) (sym c.ext.ensures ∙ ap option_copied c.in-Some.is))
    (laws.joined (rw (c.as_slice.ensures, c.pad_head_bytes.ensures.bytes, len, polar) at head)
    (laws.joined c.put_ext.ensures.bytes
    (rw (c.up_to_8.ensures, c.from-header.ensures ∙ c.header_len.ensures.length, len, c.erased.ensures.value, polar) at filler)))
