use Rattle.std.proofs.Common.{◌≡◌, ◌≤◌, ◌++◌, ◌+◌, ℕ, [], ◌∷◌, List, length, take, arith, subst, sym, ◌∙◌, append-nil, length-take-le, take_all}
use Rattle.fv_text.specs.Words.{line_text}
use Rattle.fv_text.proofs.hex_lines.HexSink.take_some.Goals as goal

pub returns-clause-takes : goal.returns-clause-takes
returns-clause-takes g c =
    let line : List ℕ = c.copy_to.new.buffer in
    let part = take c.min-count.result c.args.bytes.now in
    let n : length part ≡ c.min-count.result = length-take-le c.min-count.result c.args.bytes.now (omega (arith, c.min-count.ensures)) in
    let long : length line ≤ c.args.self.now.filled + length part = omega (arith, c.copy_to.ensures.len, n, c.if-end-lt-LINE.false) in
    let all : take (c.args.self.now.filled + length part) line ≡ line = take_all (c.args.self.now.filled + length part) line long in
    record {
      lines = line ∷ [];
      joined = sym c.copy_to.ensures.copied ∙ all ∙ sym (append-nil line) ∙ sym (append-nil (line ++ []));
      whole_lines = (omega (arith, c.copy_to.ensures.len), tt);
      taken = subst (λ (l : List ℕ). g.S.Sink.takes c.args.self.now.below l c.put_line.new.out) (sym (append-nil (line_text line)))
          c.put_line.ensures;
    }
