use Rattle.std.proofs.Common.{◌≡◌, ℕ, Bool, true, false, List, rules}
use Rattle.std.specs.Prelude.{Option}
use Rattle.fv_base.specs.Words.{has_erred, inner_of, LatchedWrites, PortState, is_writing, port_of, written_count}
use Rattle.fv_base.specs.declared.port.Port.{Port}
use Rattle.fv_base.specs.declared.sink.WriteSink.{WriteSink}
use Rattle.fv_command.specs.inner.RunSteps.{Written}
use Rattle.fv_text.specs.Words.{PortView, port_view, view_of}
use Rattle.fv_command.proofs.plan_run.run_plan.Goals as goal

-- if a sink that was on took a text, the text was written, or the first bytes of it
written : (old new : PortState) (was on : Bool) (text : List ℕ) → was ≡ true → LatchedWrites old was text new on
    → Written on text (port_view old.contents old.erred) (port_view new.contents new.erred)
written old new true true text was (bytes, fine) = (bytes.0, fine)
written old new true false text was (n, less, bytes, erred) = (n, less, bytes.0, erred)
written old new false on text was takes = cc

-- the contents, the error flag and the count that a sink over a port shows
abbrev shows : {W : Type 0} → (W → Option (List ℕ)) → WriteSink W → PortState
shows known_bytes s = record { contents = known_bytes (inner_of (port_of s)); erred = has_erred (port_of s); count = written_count s }

-- so if a sink over a port took a text, the text was written to the port, or the first bytes of it
sink_wrote : {W : Type 0} (known_bytes : W → Option (List ℕ)) (s t : WriteSink W) (old : Port W) (new : PortView) (text : List ℕ) (whole : Bool)
    → port_of s ≡ old → is_writing s ≡ true
    → LatchedWrites (shows known_bytes s) (is_writing s) text (shows known_bytes t) (is_writing t)
    → whole ≡ is_writing t → view_of known_bytes (port_of t) ≡ new → Written whole text (view_of known_bytes old) new
sink_wrote known_bytes s t old new text whole begun on takes is left =
    rw (← begun, ← left, is) (written (shows known_bytes s) (shows known_bytes t) (is_writing s) (is_writing t) text on takes)

pub returns-clause-runs : goal.returns-clause-runs
returns-clause-runs g c =
    let put = c.gather_plan-out.ensures in
    let wrote = sink_wrote g.W.Write.contents c.new.result c.gather_plan-out.result c.args.writer.now _ put.0 c.wrote_all-is_written.result
    c.new.ensures.now c.new.ensures.on put.2.1 c.wrote_all-is_written.ensures (search rules) in
    (c.gather_plan-out.new.ending.status, put.0, put.1, c.finish-status.ensures.ends put.0 _ wrote)

pub returns-clause-fine : goal.returns-clause-fine
returns-clause-fine g c =
    let put = c.gather_plan-out.ensures in
    let wrote = sink_wrote g.W.Write.contents c.new.result c.gather_plan-out.result c.args.writer.now _ put.0 c.wrote_all-is_written.result
    c.new.ensures.now c.new.ensures.on put.2.1 c.wrote_all-is_written.ensures (search rules) in
    c.finish-status.ensures.fine put.0 _ wrote
