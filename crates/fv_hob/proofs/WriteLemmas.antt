-- After one more field, block or span, the written bytes are the fields so far and the new ones. A list with an FV or
-- FV2 block has a span (`has_span`).
use Rattle.std.proofs.Common.{◌≡◌, ◌<◌, ℕ, ◌+◌, zero, suc, [], ◌∷◌, ◌++◌, List, length, take, get_or, refl, sym, ap, ◌∙◌, append_assoc}
use Rattle.std.proofs.Common.{append-nil, arith}
use Rattle.fv_base.proofs.Laws.{Option, None, Some, common_steps, concat, cons_option, map-append, take_more}
use Rattle.std.proofs.lemmas.List.Folds.{concat-append}
use Rattle.fv_hob.specs.Words.{HobForm, hob_spelled, list_spelled, span_of, spans_of}
use Rattle.fv_hob.specs.declared.span.Span.{Span}

-- some fields were written after some bytes
pub record Grown (a : List ℕ) (xs : List (List ℕ)) (b : List ℕ) : Type 0 where
  pub is : b ≡ a ++ concat xs

pub no_field : (a : List ℕ) → Grown a [] a
no_field a = record { is = sym (append-nil a) }

-- more fields were written after these
pub more_fields : {a b c : List ℕ} {xs : List (List ℕ)} → (ys : List (List ℕ)) → Grown a xs b → c ≡ b ++ concat ys → Grown a (xs ++ ys) c
more_fields {a} {b} {c} {xs} ys old new = grind (arith, common_steps, append_assoc, concat-append)

pub one_field : {a b c : List ℕ} {xs : List (List ℕ)} → (x : List ℕ) → Grown a xs b → c ≡ b ++ x → Grown a (xs ++ x ∷ []) c
one_field {a} {b} {c} {xs} x old new = more_fields (x ∷ []) old (new ∙ ap (λ (l : List ℕ). b ++ l) (sym (append-nil x)))

spelled_join : (hs : List HobForm) (h : HobForm) → list_spelled (hs ++ h ∷ []) ≡ list_spelled hs ++ hob_spelled h
spelled_join hs h = grind (arith, common_steps, map-append, concat-append, append-nil)

pub spelled_more : (hs : List HobForm) (i : ℕ) (h : HobForm) (old new : List ℕ) → i < length hs → h ≡ get_or hs i h
    → old ≡ list_spelled (take i hs) → new ≡ old ++ hob_spelled h
    → new ≡ list_spelled (take (i + 1) hs)
spelled_more hs i h old new within is p q = grind (arith, common_steps, take_more, spelled_join)

spans_join : (hs : List HobForm) (h : HobForm) → spans_of (hs ++ h ∷ []) ≡ spans_of hs ++ cons_option (span_of h.kind) []
spans_join [] h = refl
spans_join (g ∷ gs) h =
    ap (cons_option (span_of g.kind)) (spans_join gs h) ∙ first (span_of g.kind) (spans_of gs) (cons_option (span_of h.kind) []) where
      first : (o : Option Span) (ss ts : List Span) → cons_option o (ss ++ ts) ≡ cons_option o ss ++ ts
      first None ss ts = refl
      first (Some s) ss ts = refl

pub spans_more : (hs : List HobForm) (i : ℕ) (h : HobForm) (o : Option Span) (old new : List Span) → i < length hs → h ≡ get_or hs i h
    → o ≡ span_of h.kind → old ≡ spans_of (take i hs)
    → new ≡ old ++ cons_option o [] → new ≡ spans_of (take (i + 1) hs)
spans_more hs i h o old new within is span p q = grind (arith, common_steps, take_more, spans_join)

pub span_some : (o : Option Span) (s : Span) (old new : List Span) → o ≡ Some s → new ≡ old ++ s ∷ [] → new ≡ old ++ cons_option o []
span_some o s old new e p = p ∙ sym (ap (λ (x : Option Span). old ++ cons_option x []) e)

pub span_none : (o : Option Span) (old new : List Span) → o ≡ None → new ≡ old → new ≡ old ++ cons_option o []
span_none o old new e p = p ∙ sym (append-nil old) ∙ sym (ap (λ (x : Option Span). old ++ cons_option x []) e)

-- a list with an FV or FV2 block has a span
pub has_span : (hs : List HobForm) (i : ℕ) (h : HobForm) (s : Span) → i < length hs → h ≡ get_or hs i h → span_of h.kind ≡ Some s
    → 0 < length (spans_of hs)
has_span [] i h s within is e = absurd (omega (arith, within))
has_span (g ∷ gs) zero h s within is e = first (span_of g.kind) (sym (ap (λ (k : HobForm). span_of k.kind) is) ∙ e) where
  first : (o : Option Span) → o ≡ Some s → 0 < length (cons_option o (spans_of gs))
  first None e = cc
  first (Some t) e = omega arith
has_span (g ∷ gs) (suc i) h s within is e = more (span_of g.kind) (has_span gs i h s (omega (arith, within)) is e) where
  more : (o : Option Span) → 0 < length (spans_of gs) → 0 < length (cons_option o (spans_of gs))
  more None some = some
  more (Some t) some = omega arith
