use Rattle.std.proofs.Common.{◌≡◌, ℕ, [], List, refl}
use Rattle.std.specs.Prelude.{MatchOption}
use Rattle.fv_tree.specs.Words.{BodyMeaning, Leaf, leaf_of, body_of, section_kind_of}
use Rattle.fv_lines.specs.Words.{LeafText, BodyShown}
use Rattle.fv_lines.proofs.leaf_text.put_section_body.Goals as goal

-- the text of a leaf is shown for a section with this leaf, and no text for a section without a leaf
of_body : (kind : ℕ) (body : BodyMeaning) (text : List ℕ) → MatchOption (leaf_of body) (text ≡ []) (λ b. LeafText kind b text)
    → BodyShown kind body text
of_body kind (Leaf b) text h = h
of_body kind body text h = h

pub returns-in-Some : goal.returns-in-Some
returns-in-Some g c =
    let s = c.args.section.now in
    let (text, is, put) = c.put_leaf.ensures in
    (text, of_body (section_kind_of s) (body_of s) text (rw (← c.leaf.ensures, c.in-Some.is, ← c.kind.ensures.kind) is), put)

pub returns-in-None : goal.returns-in-None
returns-in-None g c =
    let s = c.args.section.now in
    ([], of_body (section_kind_of s) (body_of s) [] (rw (← c.leaf.ensures, c.in-None.is) refl), g.S.Sink.laws.none _)
