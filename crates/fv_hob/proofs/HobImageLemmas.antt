-- Blocks and lists that were read are written as bytes that are the same blocks and lists. The steps:
-- 1. A block is written as it was read, except for the body of an unused block (`header`, `kept_by`). With zeros as its
--    body, it is the same block (`zeroed`, `written_again`).
-- 2. So the written blocks of a list are these blocks (`list_again`), and if no block is unused, the bytes are the same
--    (`list_kept`).
use Rattle.std.proofs.Common.{◌≡◌, ◌≤◌, ℕ, ◌-◌, [], ◌∷◌, ◌++◌, ◌==◌, ◌%◌, zero, suc, List, length, take, drop, refl, sym, ap, ◌∙◌, subst, arith}
use Rattle.std.proofs.Common.{Bool, true, false, length-append, append-nil, append_assoc, replicate, eqb-true, take-append-drop, length-take-le}
use Rattle.fv_base.proofs.Laws.{common_steps, AllByRecursion, concat, length-replicate, take-add, IsBytes, field, le, le_at, le_bytes, bytes_append}
use Rattle.fv_base.proofs.Laws.{bytes_take, field-append_front, field-take, field_is, not_equal}
use Rattle.fv_hob.specs.Words.{HobForm, IsHob, hob_type, has_shape, kind_by, hob_len, hob_fields, hob_spelled, list_spelled, IsHobList, IsUsedHob}
use Rattle.fv_hob.specs.Words.{JoinsHobs}
use Rattle.fv_hob.proofs.HobCheckLemmas.{code_is, len_is}
use Rattle.fv_hob.proofs.BlockKindLemmas.{body_by}
use Rattle.fv_hob.specs.declared.hob.HobKind.TheVariants as kinds

-- the header of a block is written as it was read
header : (h : HobForm) (b x : List ℕ) → IsHob h b
    → le_bytes 2 (hob_type h.kind) ++ (le_bytes 2 (hob_len h.kind) ++ (le_bytes 4 h.reserved ++ x)) ≡ take 8 b ++ x
header h b x is =
    let bytes = (is.block).bytes in
    let least : 8 ≤ length b = (is.block).least in
    rw (code_is h b is, len_is h b is ∙ sym (is.block).sized, ap (λ (g : HobForm). g.reserved) is.hob_is)
    (ap (λ (l : List ℕ). l ++ (le_bytes 2 (le_at 2 2 b) ++ (le_bytes 4 (le_at 4 4 b) ++ x))) (field_is 0 2 b bytes (omega (arith, least)))
    ∙ ap (λ (l : List ℕ). field 0 2 b ++ (l ++ (le_bytes 4 (le_at 4 4 b) ++ x))) (field_is 2 2 b bytes (omega (arith, least)))
    ∙ ap (λ (l : List ℕ). field 0 2 b ++ (field 2 2 b ++ (l ++ x))) (field_is 4 4 b bytes (omega (arith, least)))
    ∙ sym (joined b x least))
  where
    joined : (b x : List ℕ) → 8 ≤ length b → take 8 b ++ x ≡ field 0 2 b ++ (field 2 2 b ++ (field 4 4 b ++ x))
    joined b x least =
        ap (λ (l : List ℕ). l ++ x) (take-add 4 4 b ∙ ap (λ (l : List ℕ). l ++ field 4 4 b) (take-add 2 2 b))
        ∙ append_assoc (field 0 2 b ++ field 2 2 b) (field 4 4 b) x ∙ append_assoc (field 0 2 b) (field 2 2 b) (field 4 4 b ++ x)

-- an unused block with a body of zeros is the same block
zeroed : (h : HobForm) (b : List ℕ) → IsHob h b → (le_at 0 2 b == 0xfffe) ≡ true → IsHob h (take 8 b ++ replicate (length b - 8) 0)
zeroed h b is e =
    let block = is.block in
    let z : List ℕ = replicate (length b - 8) 0 in
    let c : List ℕ = take 8 b ++ z in
    let front : length (take 8 b) ≡ 8 = length-take-le 8 b block.least in
    let long : length c ≡ length b =
    length-append (take 8 b) z ∙ omega (arith, front, length-replicate {A = ℕ} (length b - 8) 0, block.least) in
    let code : le_at 0 2 c ≡ le_at 0 2 b =
    ap le (field-append_front 0 2 (take 8 b) z (omega (arith, front)) ∙ field-take 0 2 8 b (omega arith)) in
    let sized : le_at 2 2 c ≡ le_at 2 2 b =
    ap le (field-append_front 2 2 (take 8 b) z (omega (arith, front)) ∙ field-take 2 2 8 b (omega arith)) in
    let reserved : le_at 4 4 c ≡ le_at 4 4 b =
    ap le (field-append_front 4 4 (take 8 b) z (omega (arith, front)) ∙ field-take 4 4 8 b (omega arith)) in
    let is_unused : le_at 0 2 b ≡ 0xfffe = eqb-true (le_at 0 2 b) 0xfffe e in
    record {
      block = record {
        bytes = bytes_append (take 8 b) z (bytes_take 8 b block.bytes) (bytes_zeros (length b - 8));
        sized = sized ∙ block.sized ∙ sym long;
        multiple = ap (λ (n : ℕ). n % 8) long ∙ block.multiple;
        least = subst (λ (n : ℕ). 8 ≤ n) (sym long) block.least;
        shaped = ap (λ (n : ℕ). has_shape n (length c)) code ∙ ap (λ (n : ℕ). has_shape (le_at 0 2 b) n) long ∙ block.shaped;
      };
      hob_is =
          is.hob_is ∙ same (le_at 4 4 b) (le_at 4 4 c) (le_at 0 2 b) (le_at 0 2 c) b c (sym reserved) is_unused (code ∙ is_unused) (sym long);
    }
  where
    bytes_zeros : (n : ℕ) → IsBytes (replicate n 0)
    bytes_zeros zero i = omega arith
    bytes_zeros (suc n) zero = omega arith
    bytes_zeros (suc n) (suc i) = bytes_zeros n i

    form : ℕ → ℕ → List ℕ → HobForm
    form r n l = record { reserved = r; kind = kind_by n l }

    unused : ℕ → ℕ → HobForm
    unused s n = record { reserved = s; kind = kinds.Unused (n - 8) }

    same : (r s m n : ℕ) (b c : List ℕ) → r ≡ s → m ≡ 0xfffe → n ≡ 0xfffe → length b ≡ length c → form r m b ≡ form s n c
    same r s m n b c p q q' l =
        ap (λ (k : ℕ). form r k b) q ∙ ap (λ (k : ℕ). form k 0xfffe b) p ∙ ap (unused s) l ∙ sym (ap (λ (k : ℕ). form s k c) q')

-- a block is written as it was read, unless it is unused
kept_by : (h : HobForm) (b : List ℕ) → IsHob h b → (le_at 0 2 b == 0xfffe) ≡ false → hob_spelled h ≡ b
kept_by h b is e = header h b (concat (hob_fields h.kind)) is ∙ ap (λ (l : List ℕ). take 8 b ++ l) body ∙ take-append-drop 8 b where
  body : concat (hob_fields h.kind) ≡ drop 8 b
  body = ap (λ (g : HobForm). concat (hob_fields g.kind)) is.hob_is ∙ body_by b (is.block).bytes (le_at 0 2 b) (is.block).shaped e

pub written_again : (h : HobForm) (b : List ℕ) → IsHob h b → IsHob h (hob_spelled h)
written_again h b is = go (le_at 0 2 b == 0xfffe) refl where
  zeros : (le_at 0 2 b == 0xfffe) ≡ true → concat (hob_fields h.kind) ≡ replicate (length b - 8) 0
  zeros e = ap (λ (g : HobForm). concat (hob_fields g.kind)) is.hob_is
      ∙ ap (λ (n : ℕ). concat (hob_fields (kind_by n b))) (eqb-true (le_at 0 2 b) 0xfffe e) ∙ append-nil (replicate (length b - 8) 0)

  go : (t : Bool) → (le_at 0 2 b == 0xfffe) ≡ t → IsHob h (hob_spelled h)
  go true e = subst (λ (l : List ℕ). IsHob h l)
      (sym (header h b (concat (hob_fields h.kind)) is ∙ ap (λ (l : List ℕ). take 8 b ++ l) (zeros e))) (zeroed h b is e)
  go false e = subst (λ (l : List ℕ). IsHob h l) (sym (kept_by h b is e)) is

-- a block that is not unused is written as it was read
pub block_kept : (h : HobForm) (b : List ℕ) → IsHob h b → IsUsedHob h → hob_spelled h ≡ b
block_kept h b is used = kept_by h b is (not_equal (le_at 0 2 b) 0xfffe (λ f. used (code_is h b is ∙ f)))

-- blocks of which none is unused are written as they were read
joins_kept : (hs : List HobForm) (b : List ℕ) → JoinsHobs hs b → AllByRecursion IsUsedHob hs → list_spelled hs ≡ b
joins_kept [] b join used = sym join
joins_kept (h ∷ hs) b (c, rest, e, is, more) used =
    ap (λ (l : List ℕ). l ++ list_spelled hs) (block_kept h c is used.0) ∙ ap (λ (l : List ℕ). c ++ l) (joins_kept hs rest more used.1)
    ∙ sym e

pub list_kept : (all : List HobForm) (c : List ℕ) → IsHobList all c → AllByRecursion IsUsedHob all → list_spelled all ≡ c
list_kept all c is used = joins_kept all c is.joined used

joins_again : (hs : List HobForm) (b : List ℕ) → JoinsHobs hs b → JoinsHobs hs (list_spelled hs)
joins_again [] b join = refl
joins_again (h ∷ hs) b (c, rest, e, is, more) = (hob_spelled h, list_spelled hs, refl, written_again h c is, joins_again hs rest more)

pub list_again : (all : List HobForm) (b : List ℕ) → IsHobList all b → IsHobList all (list_spelled all)
list_again all b is = grind (arith, common_steps, joins_again)
