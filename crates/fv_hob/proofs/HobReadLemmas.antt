-- The loop over the blocks reads a list, or finds its first fault. The steps:
-- 1. The blocks that were read make up the bytes up to a place (`HobsKept`), also with one more block (`one_more`,
--    `kept`).
-- 2. With the end block, they are a list (`ended`).
-- 3. Memory runs out only if the bytes begin with a hand-off information table (`table_stands`). No check has
--    OutOfMemory as its fault (`no_want`).
-- 4. The fault of the next block is the first fault (`first_here`), and bytes with a first fault do not begin with a
--    list (`none_after`).
use Rattle.std.proofs.lemmas.Grind.{common_steps}
use Rattle.std.proofs.Common.{◌≡◌, ◌≤◌, ℕ, ◌+◌, [], ◌∷◌, ◌++◌, ◌==◌, ◌≢◌, List, length, take, drop, refl, sym, ap, ◌∙◌, subst, arith, true}
use Rattle.std.proofs.Common.{length-append, length-drop, append_assoc, Bool, eqb-true, length-take-le, take-append-drop, take_at}
use Rattle.fv_base.proofs.Laws.{AllByRecursion, take-add, IsFirstFault, first_among, none_faulty, not_first}
use Rattle.fv_hob.specs.Words.{BeginsBlock, IsFirstHobFault, BeginsTable, hob_checks, HobForm, IsHob, hob_type, BeginWithTable, IsEndHob, IsHobList}
use Rattle.fv_hob.specs.Words.{IsNotEndHob, JoinsHobs}
use Rattle.fv_hob.specs.declared.fault.HobFault.{HobFault}
use Rattle.fv_hob.specs.declared.fault.HobFaultKind.{HobFaultKind}
use Rattle.fv_hob.proofs.HobCheckLemmas.{checks_hold, code_is}
use Rattle.fv_hob.proofs.HobListLemmas.{joins_more, others_more, same_front}
use Rattle.fv_hob.specs.declared.fault.HobFaultKind.TheVariants as kinds

-- the blocks that were read make up the bytes up to a place
pub record HobsKept (b : List ℕ) (items : List HobForm) (at : ℕ) : Type 0 where
  pub joined : JoinsHobs items (take at b)
  pub begins : BeginWithTable items
  pub others : AllByRecursion IsNotEndHob items
  pub inside : at ≤ length b

begins_more : (items : List HobForm) (h : HobForm) → BeginWithTable items → ((length items == 0) ≡ true → hob_type h.kind ≡ 0x0001)
    → BeginWithTable (items ++ h ∷ [])
begins_more gs h begins first = grind (arith, common_steps)

-- the blocks with one more block make up the bytes up to its end
pub record OneMoreHob (b : List ℕ) (items : List HobForm) (h : HobForm) (at n : ℕ) : Type 0 where
  pub joined : JoinsHobs (items ++ h ∷ []) (take (at + n) b)
  pub begins : BeginWithTable (items ++ h ∷ [])
  pub inside : at + n ≤ length b
  pub some : 8 ≤ n

pub one_more : (b : List ℕ) (items : List HobForm) (h : HobForm) (c : List ℕ) (at : ℕ) (first : Bool) → first ≡ (length items == 0)
    → HobsKept b items at → BeginsBlock first c (drop at b) → IsHob h c → OneMoreHob b items h at (length c)
one_more b items h c at first first_is k stands is =
    let whole : drop at b ≡ c ++ stands.rest = stands.joined in
    let part : take (length c) (drop at b) ≡ c = ap (take (length c)) whole ∙ take_at c stands.rest (length c) refl in
    let long : length (drop at b) ≡ length c + length stands.rest = ap length whole ∙ length-append c stands.rest in
    record {
      joined = subst (λ (l : List ℕ). JoinsHobs (items ++ h ∷ []) l)
          (sym (take-add at (length c) b ∙ ap (λ (l : List ℕ). take at b ++ l) part)) (joins_more items h (take at b) c k.joined is);
      begins = begins_more items h k.begins (λ none. code_is h c is ∙ stands.begins (first_is ∙ none));
      inside = omega (arith, long, length-drop at b, k.inside);
      some = (stands.block).least;
    }

pub kept : (b : List ℕ) (items new : List HobForm) (h : HobForm) (c : List ℕ) (at : ℕ) (first : Bool) → first ≡ (length items == 0)
    → HobsKept b items at → BeginsBlock first c (drop at b) → IsHob h c → IsNotEndHob h → new ≡ items ++ h ∷ []
    → HobsKept b new (at + length c)
kept b items new h c at first first_is k stands is other new_is =
    let more = one_more b items h c at first first_is k stands is in
    subst (λ (l : List HobForm). HobsKept b l (at + length c)) (sym new_is) (record {
      joined = more.joined;
      begins = more.begins;
      others = others_more items h k.others other;
      inside = more.inside;
    })

pub ended : (b : List ℕ) (items new : List HobForm) (h : HobForm) (c : List ℕ) (at : ℕ) (first : Bool) → first ≡ (length items == 0)
    → HobsKept b items at → BeginsBlock first c (drop at b) → IsHob h c → IsEndHob h → new ≡ items ++ h ∷ []
    → (at + length c ≤ length b) × IsHobList new (take (at + length c) b)
ended b items new h c at first first_is k stands is end new_is =
    let more = one_more b items h c at first first_is k stands is in (
      more.inside,
      subst (λ (l : List HobForm). IsHobList l (take (at + length c) b)) (sym new_is) (record {
        before = items;
        last = h;
        ends = refl;
        joined = more.joined;
        begins = more.begins;
        others = k.others;
        last_is = end;
      }),
    )

-- if a block was read, or can be read next, the bytes begin with a hand-off information table
pub table_stands : (b : List ℕ) (items : List HobForm) (c : List ℕ) (at : ℕ) (first : Bool) → first ≡ (length items == 0)
    → HobsKept b items at → BeginsBlock first c (drop at b) → BeginsTable b
table_stands b [] c at first first_is k stands =
    (c, subst (λ (l : List ℕ). BeginsBlock true c l) (whole k.joined) (subst (λ (t : Bool). BeginsBlock t c (drop at b)) first_is stands))
  where
    whole : take at b ≡ [] → drop at b ≡ b
    whole e = ap (λ (l : List ℕ). l ++ drop at b) (sym e) ∙ take-append-drop at b
table_stands b (h ∷ hs) c at first first_is k stands = go k.joined k.begins where
  go : JoinsHobs (h ∷ hs) (take at b) → hob_type h.kind ≡ 0x0001 → BeginsTable b
  go (d, rest, e, is, more) begins = (
    d,
    record {
      rest = rest ++ drop at b;
      joined = sym (take-append-drop at b) ∙ ap (λ (l : List ℕ). l ++ drop at b) e ∙ append_assoc d rest (drop at b);
      block = is.block;
      begins = λ t. sym (code_is h d is) ∙ begins;
    },
  )

-- the fault of the next block is the first fault of the list
pub first_here : (b : List ℕ) (items : List HobForm) (at : ℕ) (first : Bool) (f : HobFault) → first ≡ (length items == 0)
    → HobsKept b items at → f.offset ≡ at → IsFirstFault (hob_checks first (drop at b)) f.kind → IsFirstHobFault b f
first_here b items at first f first_is k place kind = grind (arith, common_steps, take-append-drop, length-take-le)

-- the fault of a check is not OutOfMemory
pub no_want : (begins : Bool) (r : List ℕ) (kind : HobFaultKind) → IsFirstFault (hob_checks begins r) kind → kind ≢ kinds.OutOfMemory
no_want begins r kind first =
    first_among (λ (k : HobFaultKind). k ≢ kinds.OutOfMemory) (hob_checks begins r) kind
    ((λ t. cc), ((λ t. cc), ((λ t. cc), ((λ t. cc), ((λ t. cc), ((λ t. cc), tt)))))) first

-- if there is a first fault, the bytes do not begin with a list
pub none_after : (b : List ℕ) (f : HobFault) (all : List HobForm) (d y : List ℕ) → IsFirstHobFault b f → IsHobList all d → b ≡ d ++ y → ⊥
none_after b f all d y here is whole =
    let s = same_front here.before is.before is.last here.c d here.r y here.read here.others
    (subst (λ (l : List HobForm). JoinsHobs l d) is.ends is.joined) is.last_is (sym here.joined ∙ whole) in
    go s.more s.e s.joined s.bytes_are (is.ends ∙ ap (λ (l : List HobForm). l ++ (is.last ∷ [])) s.front_is)
  where
    -- the block at the fault, if it is the first of the list, is a hand-off information table
    head : (before more : List HobForm) (last h : HobForm) (behind : List HobForm) → more ++ last ∷ [] ≡ h ∷ behind
        → all ≡ (before ++ more) ++ last ∷ [] → (length before == 0) ≡ true → hob_type h.kind ≡ 0x0001
    head [] more last h behind e same first = subst BeginWithTable (same ∙ e) is.begins
    head (g ∷ gs) more last h behind e same first = absurd (omega (arith, eqb-true (length (g ∷ gs)) 0 first))

    refuse : (h : HobForm) (c x : List ℕ) → IsHob h c → here.r ≡ c ++ x → ((length here.before == 0) ≡ true → hob_type h.kind ≡ 0x0001) → ⊥
    refuse h c x js e first =
        not_first (hob_checks (length here.before == 0) (c ++ x)) f.kind
        (subst (λ (l : List ℕ). IsFirstFault (hob_checks (length here.before == 0) l) f.kind) e here.kind_is)
        (none_faulty (hob_checks (length here.before == 0) (c ++ x)) (checks_hold (length here.before == 0) h c x js first))

    go : (more : List HobForm) (e : List ℕ) → JoinsHobs (more ++ is.last ∷ []) e → here.r ≡ e ++ y
        → all ≡ (here.before ++ more) ++ is.last ∷ [] → ⊥
    go [] e (c, rest, e_is, js, more') r_is same = refuse is.last c (rest ++ y) js
        (r_is ∙ ap (λ (l : List ℕ). l ++ y) e_is ∙ append_assoc c rest y) (head here.before [] is.last is.last [] refl same)
    go (h ∷ hs) e (c, rest, e_is, js, more') r_is same =
        refuse h c (rest ++ y) js (r_is ∙ ap (λ (l : List ℕ). l ++ y) e_is ∙ append_assoc c rest y)
        (head here.before (h ∷ hs) is.last h (hs ++ is.last ∷ []) refl same)
