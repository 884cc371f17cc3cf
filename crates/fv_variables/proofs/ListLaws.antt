-- Signature lists are read as their signatures (`lists_read`).
use Rattle.std.proofs.Common.{◌≡◌, ◌≤◌, ◌<◌, ◌+◌, ◌-◌, ◌==◌, ℕ, List, [], ◌∷◌, ◌++◌, Bool, true, false, take, drop, length, nat_le}
use Rattle.std.proofs.Common.{if◌then◌else◌, refl, sym, ap, ◌∙◌, subst, arith, length-append, length-drop, le-leb, eqb-true, None, drop-drop, append_assoc, take_at}
use Rattle.std.proofs.lemmas.List.{drop-append-le}
use Rattle.std.proofs.Math.Seq.{drop-append_seam}
use Rattle.fv_base.proofs.Laws.{and_join, field, field-append_front, le, le_at}
use Rattle.fv_base.specs.Words.{guid_of}
use Rattle.fv_variables.specs.declared.row.Finding.TheVariants as findings
use Rattle.fv_variables.specs.declared.row.Part.TheVariants as parts
use Rattle.fv_variables.specs.declared.step.Reading.TheVariants as readings
use Rattle.fv_variables.specs.declared.step.Step.{Step}
use Rattle.fv_variables.specs.Words.{AreSignatures, all_signatures, JoinsLists, JoinsSignatures, SignatureForm, has_list_sizes, list_in, passed_step}
use Rattle.fv_variables.specs.Words.{rows_left, signature_rows, signatures_of, step_at, within_list}
use Rattle.fv_variables.proofs.RowLaws.{lent}

-- a reading of the rest of a list is a reading in the list if the rest has bytes
within_list_some : (left size : ℕ) → 0 < left → within_list left size ≡ readings.List left size
within_list_some left size some = go (left == 0) refl where
  go : (t : Bool) → (left == 0) ≡ t → (if t then readings.Lists else readings.List left size) ≡ readings.List left size
  go true e = absurd (omega (arith, some, eqb-true left 0 e))
  go false e = refl

-- the data of a signature in all bytes
content_is : (b c x : List ℕ) (at size : ℕ) → drop at b ≡ c ++ x → length c ≡ size → 16 ≤ size → field (at + 16) (size - 16) b ≡ drop 16 c
content_is b c x at size place long least =
    let rest : drop (at + 16) b ≡ drop 16 c ++ x =
    sym (drop-drop 16 at b) ∙ (ap (drop 16) place ∙ drop-append-le 16 c x (omega (arith, long, least))) in
    ap (take (size - 16)) rest ∙ take_at (drop 16 c) x (size - 16) (omega (arith, length-drop 16 c, long))

-- the first signature of a list, and those that follow it
one_signature : (b c x : List ℕ) (at size : ℕ) (s : SignatureForm) (ss others : List SignatureForm) → drop at b ≡ c ++ x → length c ≡ size
    → 16 ≤ size → s ≡ record { owner = guid_of (field 0 16 c); content = drop 16 c } → ss ≡ others
    → record { owner = guid_of (field 0 16 (c ++ x)); content = field (at + 16) (size - 16) b } ∷ ss ≡ s ∷ others
one_signature b c x at size s ss others place long least is rest =
    let owner : field 0 16 (c ++ x) ≡ field 0 16 c = field-append_front 0 16 c x (omega (arith, long, least)) in
    let made : List ℕ → List ℕ → SignatureForm = λ g d. record { owner = guid_of g; content = d } in
    ap (λ g. made g (field (at + 16) (size - 16) b) ∷ ss) owner ∙ ap (λ d. made (field 0 16 c) d ∷ ss) (content_is b c x at size place long least)
    ∙ ap (λ t. t ∷ ss) (sym is) ∙ ap (λ l. s ∷ l) rest

-- the signatures of the rest of a list are read, and then what follows the list
signatures_read : (size : ℕ) (ss : List SignatureForm) (at : ℕ) (b body rest : List ℕ) (ms : List SignatureForm) → 16 ≤ size
    → JoinsSignatures size ss body → drop at b ≡ body ++ rest
    → ((from : ℕ) → drop from b ≡ rest → AreSignatures b (rows_left readings.Lists from rest) ms)
    → AreSignatures b (rows_left (within_list (length body) size) at (body ++ rest)) (ss ++ ms)
signatures_read size [] at b body rest ms least e place more =
    subst (λ d. drop at b ≡ d ++ rest → AreSignatures b (rows_left (within_list (length d) size) at (d ++ rest)) ms) (sym e)
    (λ h. more at h) place
signatures_read size (s ∷ ss) at b body rest ms least (c, tail, e, long, is, others) place more =
    subst (λ d. drop at b ≡ d ++ rest → AreSignatures b (rows_left (within_list (length d) size) at (d ++ rest)) (s ∷ (ss ++ ms))) (sym e)
    (go (λ h. signatures_read size ss (at + size) b tail rest ms least others h more)) place
  where
    go : (drop (at + size) b ≡ tail ++ rest → AreSignatures b (rows_left (within_list (length tail) size) (at + size) (tail ++ rest)) (ss ++ ms))
        → drop at b ≡ (c ++ tail) ++ rest
        → AreSignatures b (rows_left (within_list (length (c ++ tail)) size) at ((c ++ tail) ++ rest)) (s ∷ (ss ++ ms))
    go later here =
        let assoc : (c ++ tail) ++ rest ≡ c ++ (tail ++ rest) = append_assoc c tail rest in
        let n : length (c ++ tail) ≡ length c + length tail = length-append c tail in
        let r : List ℕ = c ++ (tail ++ rest) in
        let whole : length r ≡ length c + length (tail ++ rest) = length-append c (tail ++ rest) in
        let back : length (tail ++ rest) ≡ length tail + length rest = length-append tail rest in
        let left : ℕ = length (c ++ tail) in
        let t : Step = record { part = parts.Signature (guid_of (field 0 16 r)); finding = None; length = size; next = within_list (left - size) size } in
        let step : t ≡ step_at (readings.List left size) r =
        sym (ap (λ v. if v then t else passed_step findings.SignatureSize left) (le-leb size left (omega (arith, n, long)))) in
        let after : tail ++ rest ≡ drop size r = sym (ap (λ k. drop k r) (sym long) ∙ drop-append_seam c (tail ++ rest)) in
        let rows = lent (readings.List left size) at r (tail ++ rest) t (omega (arith, whole, long, least))
        (omega (arith, n, long, least), least, omega (arith, n, whole, back)) step after in
        let moved : drop (at + size) b ≡ tail ++ rest = sym (drop-drop size at b) ∙ (ap (drop size) (here ∙ assoc) ∙ sym after) in
        let next : within_list (left - size) size ≡ within_list (length tail) size = ap (λ k. within_list k size) (omega (arith, n, long)) in
        let said : AreSignatures b (rows_left t.next (at + size) (tail ++ rest)) (ss ++ ms) =
        subst (λ q. AreSignatures b (rows_left q (at + size) (tail ++ rest)) (ss ++ ms)) (sym next) (later moved) in
        subst (λ d. AreSignatures b (rows_left (within_list left size) at d) (s ∷ (ss ++ ms))) (sym assoc)
        (subst (λ q. AreSignatures b (rows_left q at r) (s ∷ (ss ++ ms))) (sym (within_list_some left size (omega (arith, n, long, least))))
        (subst (λ l. AreSignatures b l (s ∷ (ss ++ ms))) (sym rows) (
          one_signature b c (tail ++ rest) at size s (signatures_of b (rows_left t.next (at + size) (tail ++ rest))) (ss ++ ms)
              (here ∙ assoc) long least is said.0,
          (refl, said.1),
        )))

-- the sizes in the header of a list are within its bytes
size_in : (i : ℕ) (head x : List ℕ) → i + 4 ≤ length head → le_at i 4 (head ++ x) ≡ le_at i 4 head
size_in i head x l = ap le (field-append_front i 4 head x l)

joined_read : (lists : List (List SignatureForm)) (at : ℕ) (b r : List ℕ) → JoinsLists lists r → drop at b ≡ r
    → AreSignatures b (rows_left readings.Lists at r) (all_signatures lists)
joined_read [] at b r e place = subst (λ d. AreSignatures b (rows_left readings.Lists at d) []) (sym e) (refl, tt)
joined_read (ss ∷ lists) at b r (head, body, rest, e, headed, sized, least, joins, more) place =
    subst (λ d. drop at b ≡ d → AreSignatures b (rows_left readings.Lists at d) (ss ++ all_signatures lists)) (sym e)
    (go (λ from h. signatures_read (le_at 24 4 head) ss from b body rest (all_signatures lists) least joins h (λ k m. joined_read lists k b rest more m)))
    place
  where
    go : ((from : ℕ) → drop from b ≡ body ++ rest
        → AreSignatures b (rows_left (within_list (length body) (le_at 24 4 head)) from (body ++ rest)) (ss ++ all_signatures lists))
        → drop at b ≡ head ++ (body ++ rest) → AreSignatures b (rows_left readings.Lists at (head ++ (body ++ rest))) (ss ++ all_signatures lists)
    go later here =
        let d : List ℕ = head ++ (body ++ rest) in
        let whole : length d ≡ length head + length (body ++ rest) = length-append head (body ++ rest) in
        let back : length (body ++ rest) ≡ length body + length rest = length-append body rest in
        let a : le_at 16 4 d ≡ le_at 16 4 head = size_in 16 head (body ++ rest) (omega (arith, headed)) in
        let h : le_at 20 4 d ≡ le_at 20 4 head = size_in 20 head (body ++ rest) (omega (arith, headed)) in
        let z : le_at 24 4 d ≡ le_at 24 4 head = size_in 24 head (body ++ rest) (omega (arith, headed)) in
        let t : Step = record {
          part = parts.ListHeader (list_in d);
          finding = None;
          length = 28 + le_at 20 4 d;
          next = within_list (le_at 16 4 d - (28 + le_at 20 4 d)) (le_at 24 4 d);
        } in
        let sizes : has_list_sizes d ≡ true =
        and_join (nat_le 28 (length d)) _ (le-leb 28 (length d) (omega (arith, whole, headed)))
        (and_join (nat_le 16 (le_at 24 4 d)) _ (le-leb 16 (le_at 24 4 d) (omega (arith, z, least)))
        (and_join (nat_le (28 + le_at 20 4 d) (le_at 16 4 d)) (nat_le (le_at 16 4 d) (length d))
        (le-leb (28 + le_at 20 4 d) (le_at 16 4 d) (omega (arith, a, h, headed, sized)))
        (le-leb (le_at 16 4 d) (length d) (omega (arith, a, sized, whole, back))))) in
        let step : t ≡ step_at readings.Lists d = sym (ap (λ v. if v then t else passed_step findings.ListSize (length d)) sizes) in
        let long : 28 + le_at 20 4 d ≡ length head = omega (arith, h, headed) in
        let after : body ++ rest ≡ drop (28 + le_at 20 4 d) d = sym (ap (λ k. drop k d) long ∙ drop-append_seam head (body ++ rest)) in
        let rows = lent readings.Lists at d (body ++ rest) t (omega (arith, whole, headed)) tt step after in
        let moved : drop (at + (28 + le_at 20 4 d)) b ≡ body ++ rest =
        sym (drop-drop (28 + le_at 20 4 d) at b) ∙ (ap (drop (28 + le_at 20 4 d)) here ∙ sym after) in
        let next : within_list (le_at 16 4 d - (28 + le_at 20 4 d)) (le_at 24 4 d) ≡ within_list (length body) (le_at 24 4 head) =
        ap (λ k. within_list k (le_at 24 4 d)) (omega (arith, a, long, sized)) ∙ ap (within_list (length body)) z in
        let said : AreSignatures b (rows_left t.next (at + (28 + le_at 20 4 d)) (body ++ rest)) (ss ++ all_signatures lists) =
        subst (λ q. AreSignatures b (rows_left q (at + (28 + le_at 20 4 d)) (body ++ rest)) (ss ++ all_signatures lists)) (sym next)
        (later (at + (28 + le_at 20 4 d)) moved) in
        subst (λ l. AreSignatures b l (ss ++ all_signatures lists)) (sym rows) (said.0, (refl, said.1))

-- signature lists are read as their signatures, without findings
pub lists_read : (lists : List (List SignatureForm)) (b : List ℕ) → JoinsLists lists b → AreSignatures b (signature_rows b) (all_signatures lists)
unfolding signature_rows
lists_read lists b joins = joined_read lists 0 b b joins refl
