use Rattle.std.proofs.Common.{[], ◌∷◌, append-nil, append_assoc}
use Rattle.fv_c.proofs.tree_digests.walk_digests.Goals as goal

pub loop-row-init : goal.loop-row-init
loop-row-init c = (
  tt,
  tt,
  rw (c.into_iter-row-iterator.ensures.into_iter_gives, c.new-digests.ensures) c.requires,
  λ others are. rw c.new-found.ensures.items are,
)

pub next_digest-digest-requires : goal.next_digest-digest-requires
next_digest-digest-requires c = (_, rw c.in-Some.ensures.steps at c.loop-row.invariant.2)

pub loop-row-preserved : goal.loop-row-preserved
loop-row-preserved c = (
  tt,
  tt,
  c.next_digest-digest.ensures.left _ (rw c.in-Some.ensures.steps at c.loop-row.invariant.2),
  λ others are. rw (c.in_ok-push.ensures.items, append_assoc)
      (c.loop-row.invariant.3 (_ ∷ others) (rw c.in-Some.ensures.steps ((_, c.next_digest-digest.ensures.digest, c.unwrap_or.ensures), are))),
)

pub returns : goal.returns
returns c =
    rw (append-nil, c.into_iter-row-iterator.ensures.into_iter_gives) at (c.loop-row.invariant.3 [] (rw c.in-None.ensures.steps.0 tt))
