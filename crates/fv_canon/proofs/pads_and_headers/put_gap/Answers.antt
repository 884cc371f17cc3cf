use Rattle.std.proofs.Common.{◌-◌, ℕ, List, ◌++◌, sym, ap, ◌∙◌, arith, append_assoc}
use Rattle.fv_canon.specs.Words.{pad_bytes, long_pad, gap_bytes}
use Rattle.fv_canon.proofs.PadLaws.{pads_rule}
use Rattle.fv_canon.proofs.pads_and_headers.put_gap.Goals as goal

pub loop-left-preserved : goal.loop-left-preserved
loop-left-preserved g c =
    let inv = c.loop-left.invariant in
    let rule = (pads_rule c.args.polarity c.loop-left.left inv.least inv.multiple).1 c.loop-left-test.true in
    let pad = pad_bytes c.args.polarity long_pad in
    let f = inv.done in
    record {
      least = omega (arith, rule.1);
      most = omega (arith, inv.most);
      multiple = omega (arith, inv.multiple, c.loop-left-test.true);
      done = record {
        front = f.front ++ pad;
        taken = g.S.Sink.laws.joined f.taken c.put_pad.ensures;
        whole_is = append_assoc f.front pad (gap_bytes c.args.polarity (c.loop-left.left - long_pad))
            ∙ ap (λ (xs : List ℕ). f.front ++ xs) (sym rule.0) ∙ f.whole_is;
      };
    }

pub returns : goal.returns
returns g c =
    let inv = c.loop-left.invariant in
    let one = (pads_rule c.args.polarity c.loop-left.left inv.least inv.multiple).0 c.loop-left-test.false in
    let f = inv.done in
    rw (← f.whole_is, one) (g.S.Sink.laws.joined f.taken c.put_pad-2.ensures)
