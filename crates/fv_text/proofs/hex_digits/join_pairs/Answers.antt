use Rattle.std.proofs.Common.{rules, ◌+◌, ◌*◌, ◌++◌, ◌∷◌, ◌≡◌, ◌<◌, [], ℕ, arith, sym, ap, ap₂, ◌∙◌, List, length, take, get_or, append_assoc}
use Rattle.fv_base.proofs.Laws.{set, take_more_set, All-get_or}
use Rattle.fv_text.specs.inner.HexDecoding.{IsNibble, joined_pairs}
use Rattle.fv_text.proofs.HexDigitLemmas.{joined_next, pair_value}
use Rattle.fv_text.proofs.hex_digits.join_pairs.Goals as goal

pub overflow_mul-room : goal.overflow_mul-room
overflow_mul-room c =
    let high = pair_value c.as_chunks.result.0.now _ c.args.values.now c.loop-i.i 0 [] 0 c.as_chunks.ensures.front c.loop-i-test.true (omega arith) in
    let high_small = All-get_or IsNibble c.args.values.now (2 * c.loop-i.i + 0) 0 (omega (arith, c.loop-i-test.true)) c.requires.small in
    omega (arith, high, high_small)

pub overflow_add-room : goal.overflow_add-room
overflow_add-room c =
    let high = pair_value c.as_chunks.result.0.now _ c.args.values.now c.loop-i.i 0 [] 0 c.as_chunks.ensures.front c.loop-i-test.true (omega arith) in
    let low = pair_value c.as_chunks.result.0.now _ c.args.values.now c.loop-i.i 1 [] 0 c.as_chunks.ensures.front c.loop-i-test.true (omega arith) in
    let high_small = All-get_or IsNibble c.args.values.now (2 * c.loop-i.i + 0) 0 (omega (arith, c.loop-i-test.true)) c.requires.small in
    let low_small = All-get_or IsNibble c.args.values.now (2 * c.loop-i.i + 1) 0 (omega (arith, c.loop-i-test.true)) c.requires.small in
    omega (arith, high, high_small, low, low_small)

pub loop-i-preserved : goal.loop-i-preserved
loop-i-preserved c =
    let (long, so_far) = c.loop-i.invariant in
    let i = c.loop-i.i in
    let values = c.args.values.now in
    let none : 2 * i + 0 ≡ 2 * i = omega arith in
    let base = take c.args.start c.args.room.now in
    let pair = get_or c.as_chunks.result.0.now i [] in
    let byte = get_or pair 0 0 * 16 + get_or pair 1 0 in
    let high = pair_value c.as_chunks.result.0.now _ values i 0 [] 0 c.as_chunks.ensures.front c.loop-i-test.true (omega arith)
    ∙ ap (λ (n : ℕ). get_or values n 0) none in
    let low = pair_value c.as_chunks.result.0.now _ values i 1 [] 0 c.as_chunks.ensures.front c.loop-i-test.true (omega arith) in
    let place : c.args.start + (i + 1) ≡ (c.args.start + i) + 1 = omega arith in
    let within : c.args.start + i < length c.loop-i.room = omega (arith, long, c.requires.fits, c.loop-i-test.true) in (
      search rules,
      ap (λ (n : ℕ). take n (set c.loop-i.room (c.args.start + i) byte)) place
          ∙ take_more_set c.loop-i.room (c.args.start + i) byte within
          ∙ ap₂ (λ (l : List ℕ) (v : ℕ). l ++ v ∷ []) so_far (ap₂ (λ (h l : ℕ). h * 16 + l) high low)
          ∙ append_assoc base (joined_pairs (take (2 * i) values)) ((get_or values (2 * i) 0 * 16 + get_or values (2 * i + 1) 0) ∷ [])
          ∙ ap (λ (l : List ℕ). base ++ l) (sym (joined_next values i 0 0 (omega (arith, c.loop-i-test.true)))),
    )
