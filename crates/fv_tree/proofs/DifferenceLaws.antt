-- Two meanings have no difference exactly if they are equal. The steps:
-- 1. A test that decides a fact leaves no difference exactly if the fact holds (`by_test`). Two pairs of parts have no
--    difference exactly if neither pair has one (`both_same`), also if a step leads to a pair (`under_same`).
-- 2. The fields of a header have tests that decide whether they are equal: the block map (`blocks_decide`), the entries
--    and the extended header (`entries_decide`, `ext_decides`). So two headers have no difference exactly if they are
--    equal (`head_same`).
-- 3. By induction on the meaning, two volumes have no difference exactly if they are equal (`volume_same`).
use Rattle.std.proofs.Common.{arith, ◌≡◌, ℕ, ◌+◌, ◌==◌, ◌&&◌, List, refl, ap, Bool, Option, None}
use Rattle.fv_base.proofs.Laws.{Decides, option_or, beq, booleans_Decides, bytes_eq, Decides-eqb, bytes_eq-Decides, bytes_of, common_steps}
use Rattle.std.proofs.lemmas.Bool.Decides.{Decides-and, Decides-like}
use Rattle.std.proofs.lemmas.Slice.Eq.{slice_eq-Decides}
use Rattle.fv_base.specs.declared.flash.FileSystem.{FileSystem}
use Rattle.fv_base.specs.declared.guid.Guid.{Guid}
use Rattle.fv_head.specs.Words.{Extension, HeadFields}
use Rattle.fv_tree.specs.Words.{is_ffs3, Differs, differ_unless, under, blocks_eq, entries_eq, ext_eq, head_differs, difference, files_differ}
use Rattle.fv_tree.specs.Words.{file_differs, content_differs, sections_differ, section_differs, body_differs, Meaning, Volume, FileMeanings, NoFiles}
use Rattle.fv_tree.specs.Words.{MoreFiles, FileMeaning, File, ContentMeaning, Plain, Sectioned, SectionMeanings, NoSections, MoreSections}
use Rattle.fv_tree.specs.Words.{SectionMeaning, Section, BodyMeaning, Leaf, Group, Nested}
use Rattle.fv_tree.specs.declared.difference.Step.{Step}
use Rattle.fv_tree.specs.declared.difference.DifferenceKind.{DifferenceKind}

-- there is no difference exactly if P holds
abbrev IsNoneIf : Differs → Type 0 → Type 0
IsNoneIf d P = (d ≡ None → P) × (P → d ≡ None)

by_test : {P : Type 0} (t : Bool) (word : DifferenceKind) → Decides t P → IsNoneIf (differ_unless t word) P
by_test t word decides = grind (arith, common_steps)

both_same : {P Q : Type 0} (a b : Differs) → IsNoneIf a P → IsNoneIf b Q → IsNoneIf (option_or a b) (P × Q)
both_same a b p q = grind (arith, common_steps)

under_same : {P : Type 0} (s : Step) (a : Differs) → IsNoneIf a P → IsNoneIf (under s a) P
under_same s a p = grind (arith, common_steps)

-- P can be replaced by a fact that holds exactly if P holds
if_same : {P Q : Type 0} (d : Differs) → (P → Q) → (Q → P) → IsNoneIf d P → IsNoneIf d Q
if_same d to back p = (λ e. to (p.0 e), λ h. p.1 (back h))

-- ---- the fields of a header

guids_decide : (x y : Guid) → Decides (bytes_eq (bytes_of x) (bytes_of y)) (x ≡ y)
guids_decide x y = Decides-like _ (ap (λ (b : List ℕ). record { bytes = b })) (ap bytes_of) (bytes_eq-Decides (bytes_of x) (bytes_of y))

systems_decide : (x y : FileSystem) → Decides (beq (is_ffs3 x) (is_ffs3 y)) (x ≡ y)
systems_decide x y = grind (arith, common_steps) steps 150000

pairs_decide : {B : Type 0} (test : B → B → Bool) → ((x y : B) → Decides (test x y) (x ≡ y)) → (p q : ℕ × B)
    → Decides ((p.0 == q.0) && test p.1 q.1) (p ≡ q)
pairs_decide {B} test decides p q = grind (arith, common_steps, Decides-like, Decides-and, Decides-eqb) steps 150000

pub blocks_decide : (ps qs : List (ℕ × ℕ)) → Decides (blocks_eq ps qs) (ps ≡ qs)
blocks_decide ps qs = slice_eq-Decides (pairs_decide (λ (x y : ℕ). x == y) Decides-eqb) ps qs (blocks_eq ps qs) refl

entries_decide : (ps qs : List (ℕ × List ℕ)) → Decides (entries_eq ps qs) (ps ≡ qs)
entries_decide ps qs = slice_eq-Decides (pairs_decide bytes_eq bytes_eq-Decides) ps qs (entries_eq ps qs) refl

pub ext_decides : (x y : Option Extension) → Decides (ext_eq x y) (x ≡ y)
ext_decides x y = grind (arith, common_steps, Decides-like, Decides-and, guids_decide, entries_decide, bytes_eq-Decides) steps 150000

head_same : (h g : HeadFields) → IsNoneIf (head_differs h g) (h ≡ g)
head_same h g =
    if_same (head_differs h g) (λ e. grind arith) (λ e. (cc, (cc, (cc, (cc, (cc, (cc, cc)))))))
    (both_same _ _ (by_test _ _ (bytes_eq-Decides h.zero_vector g.zero_vector))
    (both_same _ _ (by_test _ _ (systems_decide h.file_system g.file_system))
    (both_same _ _ (by_test _ _ (Decides-eqb h.length g.length))
    (both_same _ _ (by_test _ _ (Decides-eqb h.attributes g.attributes))
    (both_same _ _ (by_test _ _ (Decides-eqb h.reserved g.reserved))
    (both_same _ _ (by_test _ _ (blocks_decide h.blocks g.blocks)) (by_test _ _ (ext_decides h.ext g.ext))))))))

-- ---- the recursion

mutual
  pub volume_same : (v w : Meaning) → IsNoneIf (difference v w) (v ≡ w)
  volume_same (Volume h fs) (Volume g gs) = if_same _ (λ e. cc (e.0, e.1)) (λ e. (cc, cc)) (both_same _ _ (head_same h g) (files_same 0 fs gs))

  files_same : (i : ℕ) (fs gs : FileMeanings) → IsNoneIf (files_differ i fs gs) (fs ≡ gs)
  files_same i NoFiles NoFiles = (λ e. refl, λ e. refl)
  files_same i (MoreFiles f fs) (MoreFiles g gs) =
      if_same _ (λ e. cc (e.0, e.1)) (λ e. (cc, cc)) (both_same _ _ (under_same _ (file_differs f g) (file_same f g)) (files_same (i + 1) fs gs))
  files_same i _ _ = (λ e. cc, λ e. cc)

  file_same : (f g : FileMeaning) → IsNoneIf (file_differs f g) (f ≡ g)
  file_same (File n k a c) (File m l b d) =
      if_same _ (λ e. cc (e.0, e.1.0, e.1.1.0, e.1.1.1)) (λ e. (cc, (cc, (cc, cc)))) (both_same _ _ (by_test _ _ (guids_decide n m))
      (both_same _ _ (by_test _ _ (Decides-eqb k l)) (both_same _ _ (by_test _ _ (Decides-eqb a b)) (content_same c d))))

  content_same : (c d : ContentMeaning) → IsNoneIf (content_differs c d) (c ≡ d)
  content_same (Plain b) (Plain c) = if_same _ (ap Plain) (λ e. cc) (by_test _ _ (bytes_eq-Decides b c))
  content_same (Sectioned ss t) (Sectioned rs u) =
      if_same _ (λ e. cc (e.0, e.1)) (λ e. (cc, cc)) (both_same (sections_differ 0 ss rs) _ (sections_same 0 ss rs) (by_test _ _ (Decides-eqb t u)))
  content_same _ _ = (λ e. cc, λ e. cc)

  sections_same : (i : ℕ) (ss rs : SectionMeanings) → IsNoneIf (sections_differ i ss rs) (ss ≡ rs)
  sections_same i NoSections NoSections = (λ e. refl, λ e. refl)
  sections_same i (MoreSections s ss) (MoreSections r rs) =
      if_same _ (λ e. cc (e.0, e.1)) (λ e. (cc, cc)) (both_same _ _ (under_same _ _ (section_same s r)) (sections_same (i + 1) ss rs))
  sections_same i _ _ = (λ e. cc, λ e. cc)

  section_same : (s r : SectionMeaning) → IsNoneIf (section_differs s r) (s ≡ r)
  section_same (Section k e b) (Section l f c) =
      if_same _ (λ h. cc (h.0, h.1.0, h.1.1)) (λ h. (cc, (cc, cc)))
      (both_same _ _ (by_test _ _ (Decides-eqb k l)) (both_same _ _ (by_test _ _ (booleans_Decides e f)) (body_same b c)))

  body_same : (b c : BodyMeaning) → IsNoneIf (body_differs b c) (b ≡ c)
  body_same (Leaf b) (Leaf c) = if_same _ (ap Leaf) (λ e. cc) (by_test _ _ (bytes_eq-Decides b c))
  body_same (Group ss t) (Group rs u) =
      if_same _ (λ e. cc (e.0, e.1)) (λ e. (cc, cc)) (both_same (sections_differ 0 ss rs) _ (sections_same 0 ss rs) (by_test _ _ (Decides-eqb t u)))
  body_same (Nested v) (Nested w) = if_same _ (ap Nested) (λ e. cc) (volume_same v w)
  body_same _ _ = (λ e. cc, λ e. cc)
