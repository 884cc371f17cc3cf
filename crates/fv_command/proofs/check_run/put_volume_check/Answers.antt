use Rattle.std.proofs.Common.{ap, ◌≡◌, ◌∙◌, ℕ, List, [], ◌∷◌, refl, sym, arith, Bool, true, false, ◌++◌}
use Rattle.std.specs.Prelude.{◌↔◌}
use Rattle.std.specs.List.{AllByRecursion}
use Rattle.std.proofs.lemmas.Bool.Decides.{Decides-eqb}
use Rattle.fv_base.specs.Words.{AllAre, erased_byte, depth_limit}
use Rattle.fv_base.specs.declared.flash.Polarity.{Polarity}
use Rattle.fv_canon.specs.Words.{IsImage}
use Rattle.fv_canon.proofs.Laws.{PadErased, pads_erased}
use Rattle.fv_file.specs.Words.{CellForm, Pad}
use Rattle.fv_head.specs.declared.extent.Extent.{Extent}
use Rattle.fv_tree.specs.Words.{Accepted, Meaning}
use Rattle.fv_command.specs.inner.CheckRuns.{NotedPads}
use Rattle.fv_command.specs.Words.{AreCells}
use Rattle.fv_lines.specs.Words.{pad_notes, written_in, depex_lines, verdict_line}
use Rattle.fv_command.proofs.check_run.put_volume_check.Goals as goal

-- ---- pads that are erased

-- erased bytes do not count as written
none_written : (p : Polarity) (xs : List ℕ) → AllAre (erased_byte p) xs → written_in p xs ≡ 0
none_written p [] all = refl
none_written p (x ∷ xs) all = rw ((Decides-eqb x (erased_byte p)).1 all.0) (none_written p xs all.1)

-- pads whose data are erased have no notes
none_noted : (p : Polarity) (cells : List CellForm) → AllByRecursion (PadErased p) cells → pad_notes p cells ≡ []
none_noted p [] all = refl
none_noted p (Pad at head payload ∷ cells) all = rw (none_written p payload all.0) (none_noted p cells all.1)
none_noted p (c ∷ cells) all = none_noted p cells all.1

-- ---- the cells of a check

-- the notes on pads are the notes on the pads among the cells of the input; if the input is an image, no pad is noted
noted_cells : (b : List ℕ) (same : Bool) (view : Meaning) (pads : List ℕ) → Accepted b view → ((same ≡ true) ↔ IsImage view b)
    → NotedPads b same pads → (p : Polarity) × (cells : List CellForm) × AreCells view b p cells × (pads ≡ pad_notes p cells)
noted_cells b true view pads (small, d) image none =
    let e : Extent = d.extent in
    let erased = pads_erased view b e d.cells (depth_limit, omega arith, b, small, d) (image.0 refl) d.begins d.tiles in
    let are : AreCells view b e.polarity d.cells = record { extent = e; begins = d.begins; polarity_is = refl; tiles = d.tiles } in
    (e.polarity, d.cells, are, none ∙ sym (none_noted e.polarity d.cells erased))
noted_cells b false view pads accepted image are = are view accepted

pub put_pads-requires : goal.put_pads-requires
put_pads-requires g c = (c.args.view.now, c.requires)

pub returns-clause-ok : goal.returns-clause-ok
returns-clause-ok g c =
    let laws = g.S.Sink.laws in
    let (pads, are, put) = c.put_pads.ensures in
    let (notes, noted, lines) = c.put_depex_notes.ensures in
    let (p, cells, are_cells, is) = noted_cells _ _ c.args.view.now pads c.requires c.in_ok-is_same.ensures.ok are in (
      pads ++ (depex_lines notes ++ verdict_line c.in_ok-is_same.is_same),
      record {
        meaning = c.args.view.now;
        accepted = c.requires;
        polarity = p;
        cells = cells;
        are_cells = are_cells;
        notes = notes;
        are_notes = noted;
        text_is = ap (λ (t : List ℕ). t ++ (depex_lines notes ++ verdict_line c.in_ok-is_same.is_same)) is;
        same_is = c.in_ok-is_same.ensures.ok;
      },
      laws.joined put (laws.joined lines c.put_verdict.ensures),
    )
