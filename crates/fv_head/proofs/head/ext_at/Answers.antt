use Rattle.fv_base.proofs.Laws.{◌∙◌, ap, arith, subst, sym, le_at}
use Rattle.fv_head.specs.Words.{IsExt}
use Rattle.fv_head.proofs.HeadPlaceLemmas.{ext_there}
use Rattle.fv_head.proofs.head.ext_at.Goals as goal

pub ext_bytes_at-requires-clause-header : goal.ext_bytes_at-requires-clause-header
ext_bytes_at-requires-clause-header c = (ext_there c.requires.begins c.ext_offset_at.ensures c.if-ext_offset_at-eq0.false).header

pub ext_bytes_at-requires-clause-within : goal.ext_bytes_at-requires-clause-within
ext_bytes_at-requires-clause-within c = (ext_there c.requires.begins c.ext_offset_at.ensures c.if-ext_offset_at-eq0.false).within

pub ext_of-requires : goal.ext_of-requires
ext_of-requires c =
    let there = ext_there c.requires.begins c.ext_offset_at.ensures c.if-ext_offset_at-eq0.false in
    let long = c.ext_bytes_at.ensures.length in
    let size = ap (le_at 16 4) c.ext_bytes_at.ensures.bytes ∙ there.size ∙ sym long in
    record { least = omega (arith, long, there.least); most = omega (arith, long, there.most); size = size }

pub returns-clause-ok : goal.returns-clause-ok
returns-clause-ok c =
    (ext_there c.requires.begins c.ext_offset_at.ensures c.if-ext_offset_at-eq0.false).read c.in_ok-ext_of.field-0
    (subst (IsExt c.in_ok-ext_of.field-0) c.ext_bytes_at.ensures.bytes c.in_ok-ext_of.ensures.ok)
