-- A sink of lines has put the hexadecimal text of the bytes that it took, once its last line is put.
use Rattle.std.proofs.Common.{◌≡◌, ◌<◌, ℕ, [], ◌++◌, ◌∙◌, List, length, refl, ap, sym}
use Rattle.std.specs.List.{flat_map}
use Rattle.fv_base.proofs.Laws.{WalkLaws}
use Rattle.fv_text.specs.Words.{IsHexText, last_text, line_text, Lined}

-- a sink of lines that had gathered nothing took the bytes, and then its last line was put, so their text was put
pub text_put : {S : Type 0} {takes : S → List ℕ → S → Type 0} → WalkLaws takes → (s t u : S) (p bytes q : List ℕ) → p ≡ [] → length q < 32
    → Lined takes s p bytes t q → takes t (last_text q) u → (text : List ℕ) × IsHexText bytes text × takes s text u
text_put laws s t u p bytes q none short took last = (
  flat_map line_text took.lines ++ last_text q,
  record {
    lines = took.lines;
    last = q;
    joined = sym (ap (λ (l : List ℕ). l ++ bytes) none) ∙ took.joined;
    whole_lines = took.whole_lines;
    short = short;
    text_is = refl;
  },
  laws.joined took.taken last,
)
