use Rattle.std.proofs.Common.{◌≡◌, List, ℕ, Result, Ok, refl, []}
use Rattle.fv_base.specs.declared.fault.Fault.{Fault}
use Rattle.fv_head.specs.Words.{BeginsVolume, HeadFields}
use Rattle.fv_head.specs.declared.extent.Extent.{Extent}
use Rattle.fv_tree.specs.Words.{Accepted, Meaning, head_of}
use Rattle.fv_lines.specs.Words.{pad_notes}
use Rattle.fv_command.proofs.pads.put_pads.Goals as goal

-- the extent that is found in the header is the extent with which the volume was read
same_extent : (b : List ℕ) (m : Meaning) (e : Extent) (r : Result Extent Fault) (a : Accepted b m)
    → ((h : HeadFields) (x : Extent) → BeginsVolume h x b → r ≡ Ok x) → r ≡ Ok e → a.1.extent ≡ e
same_extent b m e r (bytes, d) only is = cc (only (head_of m) d.extent d.begins)

pub returns-then-is_same : goal.returns-then-is_same
returns-then-is_same g c = ([], rw c.if-is_same.true refl, g.S.Sink.laws.none c.args.out.now)

pub returns : goal.returns
returns g c =
    let (m, read) = c.requires in
    let only = c.verify_fv.ensures.only in
    let e : Extent = c.in-Ok.extent in
    let tiles = rw (same_extent c.args.input.now m e c.verify_fv.result read only c.in-Ok.is) at read.1.tiles in (
      pad_notes e.polarity read.1.cells,
      rw c.if-is_same.false (λ n accepted.
          let begins = rw (same_extent c.args.input.now n e c.verify_fv.result accepted only c.in-Ok.is) at accepted.1.begins in
          (e.polarity, read.1.cells, record { extent = e; begins = begins; polarity_is = refl; tiles = tiles }, refl)),
      (rw c.of-walk.ensures at c.put_pad_notes.ensures) read.1.cells tiles,
    )
