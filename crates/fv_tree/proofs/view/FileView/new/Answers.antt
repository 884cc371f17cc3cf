use Rattle.std.proofs.Common.{refl}
use Rattle.fv_tree.specs.Words.{bare_form, with_data}
use Rattle.fv_tree.proofs.view.FileView.new.Goals as goal

pub invariant_of-result : goal.invariant_of-result
invariant_of-result c =
    rw (c.in_ok-parts.ensures.traits, c.in_ok-parts.ensures.payload, c.in_ok-parts.ensures.volumes) (record {
      few = c.requires.few;
      form = with_data c.args.payload.now (bare_form c.args.file.now);
      stored = c.requires.stored;
      payload_is = refl;
      small = c.requires.read.small;
      short = c.requires.small;
      means = (refl, refl, c.without_large.ensures, c.requires.read.means);
      none = c.requires.read.none;
    })
