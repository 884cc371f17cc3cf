-- If a volume loses the marks of its own files, only marks change (`own_only`): each mark lies within the body
-- (`mark_within`).
use Rattle.std.proofs.Common.{◌≡◌, ◌≤◌, ℕ, ◌+◌, ◌-◌, [], ◌∷◌, ◌++◌}
use Rattle.fv_base.proofs.Laws.{List, length, take, drop, refl, sym, ap, ◌∙◌, subst, arith, field, inl, inr}
use Rattle.fv_base.proofs.Laws.{length-drop, outer_fault}
use Rattle.fv_base.specs.declared.fault.Fault.{Fault}
use Rattle.fv_base.specs.declared.fault.FaultKind.TheVariants as kinds
use Rattle.fv_base.specs.declared.flash.FileSystem.{FileSystem}
use Rattle.fv_base.specs.declared.flash.Polarity.{Polarity}
use Rattle.fv_file.specs.Words.{IsFirstCellFault, Unmarks, unmarked}
use Rattle.fv_head.proofs.Laws.{first_lies}
use Rattle.fv_marks.specs.Words.{LosesOwn, OnlyMarksChange}
use Rattle.fv_marks.proofs.OwnMarkLemmas.{next_fixed}
use Rattle.fv_marks.proofs.PartLemmas.{only_inside, only_none, only_then, three_parts}

-- ---- the own files of a volume

-- the header of a fixed file lies within the body
mark_within : (s : FileSystem) (p : Polarity) (first q : ℕ) (b : List ℕ) → IsFirstCellFault s p first b (outer_fault kinds.Fixed (first + q + 19))
    → q + 24 ≤ length b
mark_within s p first q b x =
    let there = next_fixed s p (first + x.at) (drop x.at b) _ (x.not_erased, x.fails) refl in
    omega (arith, there.long, length-drop x.at b, x.inside, ap (λ (f : Fault). f.place.offset) there.file.fault)

marks_only : (s : FileSystem) (p : Polarity) (first : ℕ) (ps : List ℕ) (b o : List ℕ) → Unmarks s p first ps b o → OnlyMarksChange b o
marks_only s p first [] b o same = only_none b o same
marks_only s p first (q ∷ ps) b o marks =
    only_then b (unmarked q b) o (q ∷ [], (mark_within s p first q b marks.0, tt), refl) (marks_only s p first ps (unmarked q b) o marks.1)

pub own_only : (b o : List ℕ) → LosesOwn b o → OnlyMarksChange b o
own_only b o (inl (none, same)) = only_none b o same
own_only b o (inr (e, body, u, last)) =
    let first = (first_lies b u.head e u.begins).1 in
    let inside = only_inside (take e.first b) (field e.first (e.length - e.first) b) (drop e.length b) body
    (marks_only e.file_system e.polarity e.first u.places (field e.first (e.length - e.first) b) body u.marks) in
    let whole : take e.first b ++ (field e.first (e.length - e.first) b ++ drop e.length b) ≡ b =
    ap (λ (n : ℕ). take e.first b ++ (field e.first (e.length - e.first) b ++ drop n b)) (omega (arith, first))
    ∙ three_parts e.first (e.length - e.first) b in
    subst (λ (l : List ℕ). OnlyMarksChange b l) (sym u.text)
    (subst (λ (l : List ℕ). OnlyMarksChange l (take e.first b ++ (body ++ drop e.length b))) whole inside)
