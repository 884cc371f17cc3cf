use Rattle.std.proofs.Common.{length, take, refl, sym, ap, ◌∙◌, ◌++◌, take-append-drop, take_at}
use Rattle.std.specs.Cmp.Lexicographic.{same_text, other_text}
use Rattle.fv_canon.proofs.canonical_input.MatchSinkSink.put.Goals as goal

pub returns-in-Some : goal.returns-in-Some
returns-in-Some c =
    let s = c.args.self.now.rest.now in
    let bytes = c.args.bytes.now in
    let (front, behind, fits) = c.in-Some.ensures.cases in
    rw c.if-self.true (sym (take-append-drop (length bytes) s) ∙ (λ i. same_text (take (length bytes) s) bytes (sym front) i ++ sym behind i))

pub returns-in-None : goal.returns-in-None
returns-in-None c =
    let s = c.args.self.now.rest.now in
    let bytes = c.args.bytes.now in
    rw c.if-self.true (λ more e. other_text (take (length bytes) s) bytes (sym c.in-None.ensures.cases)
    (ap (take (length bytes)) e ∙ take_at bytes more (length bytes) refl))
