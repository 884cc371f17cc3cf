-- Bytes begin with at most one list of blocks.
use Rattle.std.proofs.Common.{◌≡◌, ℕ, [], ◌∷◌, ◌++◌, List, refl, sym, ap, ◌∙◌, arith, append_assoc, append-nil}
use Rattle.fv_base.proofs.Laws.{common_steps, AllByRecursion}
use Rattle.fv_hob.specs.Words.{HobForm, IsHob, hob_type, IsEndHob, IsHobList, IsNotEndHob, JoinsHobs}
use Rattle.fv_hob.proofs.HobCheckLemmas.{one_block}

end_is_none : (g h : HobForm) → h ≡ g → IsNotEndHob h → IsEndHob g → ⊥
end_is_none g h e other end = other (ap (λ (f : HobForm). hob_type f.kind) e ∙ end)

-- joined blocks and one more block are joined
pub joins_more : (hs : List HobForm) (h : HobForm) (c d : List ℕ) → JoinsHobs hs c → IsHob h d → JoinsHobs (hs ++ h ∷ []) (c ++ d)
joins_more [] h c d e is = (d, [], ap (λ (l : List ℕ). l ++ d) e ∙ sym (append-nil d), is, refl)
joins_more (g ∷ gs) h c d (c', rest, e, is, more) js =
    (c', rest ++ d, ap (λ (l : List ℕ). l ++ d) e ∙ append_assoc c' rest d, is, joins_more gs h rest d more js)

pub others_more : (hs : List HobForm) (h : HobForm) → AllByRecursion IsNotEndHob hs → IsNotEndHob h → AllByRecursion IsNotEndHob (hs ++ h ∷ [])
others_more [] h all other = (other, tt)
others_more (g ∷ gs) h all other = (all.0, others_more gs h all.1 other)

-- joined bytes with more bytes after them can be joined from either side
whole : (c c' rest x : List ℕ) → c ≡ c' ++ rest → c' ++ (rest ++ x) ≡ c ++ x
whole c c' rest x e = sym (append_assoc c' rest x) ∙ ap (λ (l : List ℕ). l ++ x) (sym e)

-- the rest of a list after blocks none of which is an end block
pub record SameFront (hs front : List HobForm) (last : HobForm) (x y : List ℕ) : Type 0 where
  pub more : List HobForm
  pub e : List ℕ
  pub front_is : front ≡ hs ++ more
  pub joined : JoinsHobs (more ++ last ∷ []) e
  pub bytes_are : x ≡ e ++ y

pub same_front : (hs front : List HobForm) (last : HobForm) (c d x y : List ℕ) → JoinsHobs hs c → AllByRecursion IsNotEndHob hs
    → JoinsHobs (front ++ last ∷ []) d → IsEndHob last → c ++ x ≡ d ++ y
    → SameFront hs front last x y
same_front [] front last c d x y e all join end same =
    record { more = front; e = d; front_is = refl; joined = join; bytes_are = ap (λ (l : List ℕ). l ++ x) (sym e) ∙ same }
same_front (h ∷ hs) [] last c d x y (c', rest, e, is, more) all (d', rest', e', js, none) end same =
    let one = one_block h last c' d' (rest ++ x) (rest' ++ y) is js (whole c c' rest x e ∙ same ∙ sym (whole d d' rest' y e')) in
    absurd (end_is_none last h one.block_is all.0 end)
same_front (h ∷ hs) (g ∷ gs) last c d x y (c', rest, e, is, more) all (d', rest', e', js, more') end same =
    let one = one_block h g c' d' (rest ++ x) (rest' ++ y) is js (whole c c' rest x e ∙ same ∙ sym (whole d d' rest' y e')) in
    let s = same_front hs gs last rest rest' x y more all.1 more' end one.behind_is in
    record {
      more = s.more;
      e = s.e;
      front_is = ap (λ (f : HobForm). f ∷ gs) (sym one.block_is) ∙ ap (λ (l : List HobForm). h ∷ l) s.front_is;
      joined = s.joined;
      bytes_are = s.bytes_are;
    }

-- bytes begin with at most one list: the same blocks, and the same bytes
one_list : (front front' : List HobForm) (last last' : HobForm) (c d x y : List ℕ) → JoinsHobs (front ++ last ∷ []) c
    → AllByRecursion IsNotEndHob front → IsEndHob last
    → JoinsHobs (front' ++ last' ∷ []) d → AllByRecursion IsNotEndHob front' → IsEndHob last' → c ++ x ≡ d ++ y
    → (front' ++ last' ∷ [] ≡ front ++ last ∷ []) × (d ≡ c)
one_list [] [] last last' c d x y (c', rest, e, is, none) all end (d', rest', e', js, none') all' end' same =
    let one = one_block last last' c' d' (rest ++ x) (rest' ++ y) is js (whole c c' rest x e ∙ same ∙ sym (whole d d' rest' y e')) in (
      ap (λ (h : HobForm). h ∷ []) (sym one.block_is),
      e' ∙ ap (λ (l : List ℕ). d' ++ l) (none' ∙ sym none) ∙ ap (λ (l : List ℕ). l ++ rest) (sym one.bytes_are) ∙ sym e,
    )
one_list [] (g ∷ gs) last last' c d x y (c', rest, e, is, none) all end (d', rest', e', js, more') all' end' same =
    let one = one_block last g c' d' (rest ++ x) (rest' ++ y) is js (whole c c' rest x e ∙ same ∙ sym (whole d d' rest' y e')) in
    absurd (end_is_none last g (sym one.block_is) all'.0 end)
one_list (h ∷ hs) [] last last' c d x y (c', rest, e, is, more) all end (d', rest', e', js, none') all' end' same =
    let one = one_block h last' c' d' (rest ++ x) (rest' ++ y) is js (whole c c' rest x e ∙ same ∙ sym (whole d d' rest' y e')) in
    absurd (end_is_none last' h one.block_is all.0 end')
one_list (h ∷ hs) (g ∷ gs) last last' c d x y (c', rest, e, is, more) all end (d', rest', e', js, more') all' end' same =
    let one = one_block h g c' d' (rest ++ x) (rest' ++ y) is js (whole c c' rest x e ∙ same ∙ sym (whole d d' rest' y e')) in
    let r = one_list hs gs last last' rest rest' x y more all.1 end more' all'.1 end' one.behind_is in (
      ap (λ (f : HobForm). f ∷ (gs ++ last' ∷ [])) (sym one.block_is) ∙ ap (λ (l : List HobForm). h ∷ l) r.0,
      e' ∙ ap (λ (l : List ℕ). d' ++ l) r.1 ∙ ap (λ (l : List ℕ). l ++ rest) (sym one.bytes_are) ∙ sym e,
    )

pub only_list : (xs ys : List HobForm) (c d x y : List ℕ) → IsHobList xs c → IsHobList ys d → c ++ x ≡ d ++ y → (ys ≡ xs) × (d ≡ c)
only_list xs ys c d x y is js same = grind (arith, common_steps, one_list)
