-- The lines of rows without a packed section are the lines of `list` (`same_lines`, `opened_lines`).
use Rattle.std.proofs.Common.{◌≡◌, ◌+◌, ℕ, List, [], ◌∷◌, None, refl, subst, arith}
use Rattle.fv_lines.specs.Words.{NodeText, RowsText}
use Rattle.fv_rows.specs.Words.{NodeMeaning, VolumeNode, FileNode, SectionNode, TreeRow}
use Rattle.fv_opened.specs.Words.{HasNothingPacked, PackedRelation, PartText, RowsOver, packed_part}
use Rattle.fv_budget.specs.declared.budget.Budget.{Budget}

-- the text of a part that is not packed is its line, and the reverse
own_line : (P : PackedRelation) (depth number : ℕ) (s t : Budget) (node : NodeMeaning) (text : List ℕ) → packed_part node ≡ None
    → PartText P depth s number node text t → NodeText depth number node None text × (t ≡ s)
own_line P depth number s t (VolumeNode v) text none part = part
own_line P depth number s t (FileNode f) text none part = part
own_line P depth number s t (SectionNode section) text none part = rw none at part

its_text : (P : PackedRelation) (depth number : ℕ) (s : Budget) (node : NodeMeaning) (text : List ℕ) → packed_part node ≡ None
    → NodeText depth number node None text → PartText P depth s number node text s
its_text P depth number s (VolumeNode v) text none line = (line, refl)
its_text P depth number s (FileNode f) text none line = (line, refl)
its_text P depth number s (SectionNode section) text none line = rw none (line, refl)

-- the lines of `list` without digests
abbrev pub PlainText : List TreeRow → List ℕ → Type 0
PlainText rows text = RowsText (λ _ digest. digest ≡ None) rows text

pub opened_lines : (P : PackedRelation) (s : Budget) (rows : List TreeRow) (text : List ℕ) → HasNothingPacked rows → PlainText rows text
    → RowsOver P 0 s rows text s
opened_lines P s [] text nothing is = (is, refl)
opened_lines P s (r ∷ rows) text (none, nothing) (digest, here, rest, plain, line, is, more) =
    let same : 0 + r.depth ≡ r.depth = omega arith in (
      s,
      here,
      rest,
      rw same (its_text P r.depth r.number s r.node here none (subst (λ d. NodeText r.depth r.number r.node d here) plain line)),
      is,
      opened_lines P s rows rest nothing more,
    )

pub same_lines : (P : PackedRelation) (s t : Budget) (rows : List TreeRow) (text : List ℕ) → HasNothingPacked rows → RowsOver P 0 s rows text t
    → PlainText rows text × (t ≡ s)
same_lines P s t [] text nothing is = is
same_lines P s t (r ∷ rows) text (none, nothing) (u, here, rest, part, is, more) =
    let same : 0 + r.depth ≡ r.depth = omega arith in
    let line = own_line P r.depth r.number s u r.node here none (rw same at part) in
    let after = same_lines P s t rows rest nothing (rw line.1 at more) in
    ((None, here, rest, refl, line.0, is, after.0), after.1)
