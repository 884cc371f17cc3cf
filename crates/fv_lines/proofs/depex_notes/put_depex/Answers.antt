use Rattle.std.proofs.Common.{[], ◌∷◌, append-nil, inl, inr, refl}
use Rattle.fv_lines.specs.declared.depex_notes.DepexNote.{DepexNote}
use Rattle.fv_lines.proofs.depex_notes.put_depex.Goals as goal

pub returns : goal.returns
returns g c =
    let note : DepexNote = record { name = c.args.name; number = c.number.result; offset = c.in-Some.fault.offset } in (
      note ∷ [],
      inr (note, [], record { fault = c.in-Some.fault; first = c.in-Some.ensures.first; note_is = rw c.number.ensures }, refl, refl),
      rw append-nil c.put_note.ensures,
    )

pub returns-in-None : goal.returns-in-None
returns-in-None g c = ([], inl (c.in-None.ensures.none refl, refl), g.S.Sink.laws.none _)
