use Rattle.std.proofs.Common.{◌≡◌, ◌<◌, ◌≤◌, ◌+◌, ℕ, rules, List, length, map, take, get_or, sym, ap, ◌∙◌, subst, arith, true, inl, inr}
use Rattle.fv_base.proofs.Laws.{list_any, cases_lt, get_or_default, length-map}
use Rattle.fv_names.specs.Words.{NamedFile, is_twin, Entry}
use Rattle.fv_names.specs.inner.NameOrders.{IsTwinAt}
use Rattle.fv_names.proofs.IndexLaws.{no_entry, no_named}
use Rattle.fv_names.proofs.NeighbourLaws.{first_none, twin_before}
use Rattle.fv_names.proofs.name_index.NameIndex.first_twin.Goals.{then-number-first+then-has_twin, else-number-first}
use Rattle.fv_names.proofs.name_index.NameIndex.first_twin.Goals.{else-number-first-via-then-number-first+else-has_twin}
use Rattle.fv_names.proofs.name_index.NameIndex.first_twin.Goals.{else-number-first-via-else-number-first}
use Rattle.fv_names.proofs.name_index.NameIndex.first_twin.Goals as goal

-- n is at most the number of each entry that precedes the place and has a twin among the two entries before it
abbrev IsLeastTwin : List NamedFile → List Entry → ℕ → ℕ → Type 0
IsLeastTwin fs es place n =
    (d : NamedFile) (e : Entry) (r : ℕ) → 0 < r → r < place → IsTwinAt fs d es e r → n ≤ (get_or es r e).1

least_more : (fs : List NamedFile) (es : List Entry) (place n m : ℕ) → IsLeastTwin fs es place n → m ≤ n
    → ((d : NamedFile) (e : Entry) → IsTwinAt fs d es e place → m ≤ (get_or es place e).1) → IsLeastTwin fs es (place + 1) m
least_more fs es place n m old le here d e r above below twin = elim (cases_lt r place) [
  | inl lt ↦ omega (arith, old d e r above lt twin, le)
  | inr ge ↦
      let same : place ≡ r = omega (arith, ge, below) in
      subst (λ (k : ℕ). IsTwinAt fs d es e k → m ≤ (get_or es k e).1) same (here d e) twin
]

pub loop-place-preserved : goal.loop-place-preserved
loop-place-preserved g c =
    let fs : List NamedFile = map g.F.Named.named c.args.files.now in
    let es : List Entry = c.args.self.now.sorted.items in
    let place : ℕ = c.loop-place.place in
    let number : ℕ = c.index.result.now.1 in
    let above : 0 < place = omega arith in
    let inside : place < length es = omega arith in
    let is : (e : Entry) → number ≡ (get_or es place e).1 = λ e.
    ap (λ (x : Entry). x.1) (c.index.ensures ∙ get_or_default es place c.index.result.now e inside) in
    elim c.if-number-first.branch [
      | then-number-first+then-has_twin w ↦
          let less : number < c.loop-place.first = omega arith in
          let twins : (d : NamedFile) (e : Entry) → IsTwinAt fs d es e place = w.has_twin.ensures.yes (search rules) in
          rw w.first-is (record {
            most = omega (arith, less, c.loop-place.invariant.most);
            least = least_more fs es place c.loop-place.first number c.loop-place.invariant.least (omega (arith, less))
                (λ d e twin. omega (arith, is e));
            has = λ l d. subst (λ (k : ℕ). list_any (is_twin (get_or fs k d)) (take k fs) ≡ true) (sym (is c.index.result.now))
                (twin_before fs es c.requires d c.index.result.now place above inside (twins d c.index.result.now));
          })
      | else-number-first w ↦ rw w.first-is (record {
        most = c.loop-place.invariant.most;
        least = least_more fs es place c.loop-place.first c.loop-place.first c.loop-place.invariant.least (omega arith)
            (λ d e twin. elim w.else-number-first.branch [
              | else-number-first-via-then-number-first+else-has_twin v ↦
                  absurd (search (rules, v.has_twin.ensures.all d e twin))
              | else-number-first-via-else-number-first v ↦ omega (arith, is e, v.if-number-first.false)
            ]);
        has = c.loop-place.invariant.has;
      })
    ]

pub returns-clause-none : goal.returns-clause-none
returns-clause-none g c =
    let fs : List NamedFile = map g.F.Named.named c.args.files.now in
    let es : List Entry = c.args.self.now.sorted.items in
    first_none fs es c.requires no_named no_entry c.loop-place.first
    (λ r above below twin. c.loop-place.invariant.least no_named no_entry r above (omega (arith, below)) twin)
    (omega (arith, c.loop-place.invariant.most, length-map c.args.files.now g.F.Named.named))
