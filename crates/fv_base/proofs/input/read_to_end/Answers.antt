use Rattle.std.proofs.Common.{◌≡◌, ◌<◌, ◌+◌, ◌++◌, ℕ, ◌∙◌, List, length, length-append, take, ap, refl, sym, arith, true, false, Result, Ok, Err}
use Rattle.fv_base.proofs.Laws.{IfErr, inr, has_erred}
use Rattle.std.proofs.KnownBytes.{Consumes-kept, Consumes-trans}
use Rattle.fv_base.proofs.TestLemmas.{or_parts}
use Rattle.fv_base.proofs.input.read_to_end.Goals.{in-Ok+else-count-from+in_ok-take-in-Ok, in-Err}
use Rattle.fv_base.specs.declared.fault.FaultKind.TheVariants as kinds
use Rattle.fv_base.proofs.input.read_to_end.Goals as goal

-- the number of bytes grows by the n bytes of a read
with_piece : (bytes buf : List ℕ) (n : ℕ) → n ≡ length (take n buf) → length (bytes ++ take n buf) ≡ length bytes + n
with_piece bytes buf n long = length-append bytes (take n buf) ∙ ap (λ k. length bytes + k) (sym long)

-- a property that holds anyway also holds for an error of a kind
of_error : {A E : Type 0} (r : Result A E) (K : E → Type 0) (P : Type 0) → P → IfErr r (λ e. K e → P)
of_error (Ok a) K P p = tt
of_error (Err e) K P p = λ _. p

pub returns-in_err-take-in-Ok-clause-memory : goal.returns-in_err-take-in-Ok-clause-memory
returns-in_err-take-in-Ok-clause-memory g c =
    let (bytes, gave, held, count, few, turns, room) = c.loop-turn.invariant in
    let long = length-append bytes (take c.in-Ok.added c.read.new.buf) in
    of_error c.from_residual-in_err-take-in-Ok.result (λ f. f.kind ≡ kinds.OutOfMemory) _ (
      length bytes + length (take c.in-Ok.added c.read.new.buf),
      (bytes ++ take c.in-Ok.added c.read.new.buf, Consumes-trans _ _ _ bytes _ gave c.in-Ok.ensures.bytes.0, long),
      inr (room _ (c.in_err-take-in-Ok.ensures.full bytes held)),
    )

pub returns-then-count-from-clause-err : goal.returns-then-count-from-clause-err
returns-then-count-from-clause-err g c =
    let (bytes, gave, held, count, few, turns, room) = c.loop-turn.invariant in
    let long = with_piece bytes c.read.new.buf c.in-Ok.added c.in-Ok.ensures.bound.1 in
    let more : c.args.limit < length (bytes ++ take c.in-Ok.added c.read.new.buf) = omega (arith, count, long) in
    rw c.outer.ensures (record {
      depth = refl;
      cause = (refl, (bytes ++ take c.in-Ok.added c.read.new.buf, Consumes-trans _ _ _ bytes _ gave c.in-Ok.ensures.bytes.0, more));
    })

pub loop-turn-preserved : goal.loop-turn-preserved
loop-turn-preserved g c =
    let (bytes, gave, held, count, few, turns, room) = c.loop-turn.invariant in
    elim c.match-read.branch [
      | in-Ok+else-count-from+in_ok-take-in-Ok w ↦
          let long = with_piece bytes c.read.new.buf w.in-Ok.added w.in-Ok.ensures.bound.1 in
          rw (w.collector-is, w.count-is) (
            bytes ++ take w.in-Ok.added c.read.new.buf,
            Consumes-trans _ _ _ bytes _ gave w.in-Ok.ensures.bytes.0,
            w.in_ok-take-in-Ok.ensures.holds bytes held,
            omega (arith, count, long),
            omega (arith, count, long, w.if-count-from.false, w.from.ensures),
            λ down.
                let so_far = turns (or_parts _ _ (sym w.in-Ok.ensures.erred ∙ down)).0 in
                omega (arith, so_far, long, w.in-Ok.added-is),
            λ n lacked. room n (w.in_ok-take-in-Ok.ensures.room n lacked),
          )
      | in-Err w ↦
          rw (w.collector-is, w.count-is) (
            bytes,
            Consumes-kept _ _ _ bytes gave w.in-Err.ensures.bytes,
            held,
            count,
            few,
            λ down.
                let bad : true ≡ false = (or_parts (has_erred c.loop-turn.reader) true (sym w.in-Err.ensures.erred ∙ down)).1 in cc,
            room,
          )
    ]
