use Rattle.std.proofs.lemmas.Grind.{common_steps}
use Rattle.std.proofs.Common.{◌≡◌, ◌++◌, length, take, drop, arith}
use Rattle.std.proofs.Math.Seq.{take-append_seam}
use Rattle.fv_placement.proofs.first_placement.first_starts.Goals as goal

pub returns-then-not-find_reaches-clause-none : goal.returns-then-not-find_reaches-clause-none
returns-then-not-find_reaches-clause-none c starts p =
    c.find_reaches.ensures.none c.if-not-find_reaches.true c.args.first
    (record { room = p.room; starts = starts; follow = p.follow })

pub returns-clause-none : goal.returns-clause-none
returns-clause-none c =
    let found = c.find_reaches.new.reaches in
    let whole : c.in_ok-reaches.reaches.len ≡ length c.find_reaches.new.reaches = omega (arith, c.find_reaches.auto.reaches) in
    let written : take c.in_ok-reaches.reaches.len (found ++ drop (length found) c.in_ok-reaches.reaches.items) ≡ found =
    rw whole (take-append_seam _ _) in
    c.place_each-2.ensures.none (rw (c.as_slice.ensures.value, written) c.find_reaches.ensures.len)
    (rw (c.as_slice.ensures.value, written) (c.find_reaches.ensures.found c.if-not-find_reaches.false))

pub returns-in-Some-clause-found : goal.returns-in-Some-clause-found
returns-in-Some-clause-found c = let found = c.in_ok-starts.ensures.found in rw c.in-Some.is at found

pub place_each-requires-2-clause-reaches : goal.place_each-requires-2-clause-reaches
place_each-requires-2-clause-reaches c = grind (arith, common_steps)
