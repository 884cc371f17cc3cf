-- The first difference of two meanings is the same whichever of them is the first: each test of a difference is.
use Rattle.std.proofs.Common.{◌≡◌, ℕ, ◌+◌, ◌==◌, List, refl, ap, sym, ◌∙◌, Bool, Option}
use Rattle.fv_base.proofs.Laws.{Decides, option_or, beq, booleans_Decides, bytes_eq, Decides-eqb, bytes_eq-Decides, bytes_of}
use Rattle.std.proofs.lemmas.Bool.Decides.{Decides-like, same_from_decides}
use Rattle.fv_head.specs.Words.{Extension, HeadFields}
use Rattle.fv_tree.specs.Words.{is_ffs3, Differs, differ_unless, under, blocks_eq, ext_eq, head_differs, difference, files_differ}
use Rattle.fv_tree.specs.Words.{file_differs, content_differs, sections_differ, section_differs, body_differs, Meaning, Volume, FileMeanings, NoFiles}
use Rattle.fv_tree.specs.Words.{MoreFiles, FileMeaning, File, ContentMeaning, Plain, Sectioned, SectionMeanings, NoSections, MoreSections}
use Rattle.fv_tree.specs.Words.{SectionMeaning, Section, BodyMeaning, Leaf, Group, Nested}
use Rattle.fv_tree.specs.declared.difference.Step.{Step}
use Rattle.fv_tree.specs.declared.difference.DifferenceKind.{DifferenceKind}
use Rattle.fv_tree.proofs.DifferenceLaws.{blocks_decide, ext_decides}

same_test : {P Q : Type 0} (s t : Bool) → Decides s P → Decides t Q → (P → Q) → (Q → P) → s ≡ t
same_test s t d k to back = same_from_decides s t (Decides-like s to back d) k

bytes_turn : (a b : List ℕ) → bytes_eq a b ≡ bytes_eq b a
bytes_turn a b = same_test (bytes_eq a b) (bytes_eq b a) (bytes_eq-Decides a b) (bytes_eq-Decides b a) sym sym

number_turn : (m n : ℕ) → (m == n) ≡ (n == m)
number_turn m n = same_test (m == n) (n == m) (Decides-eqb m n) (Decides-eqb n m) sym sym

bool_turn : (e f : Bool) → beq e f ≡ beq f e
bool_turn e f = same_test (beq e f) (beq f e) (booleans_Decides e f) (booleans_Decides f e) sym sym

blocks_turn : (p q : List (ℕ × ℕ)) → blocks_eq p q ≡ blocks_eq q p
blocks_turn p q = same_test (blocks_eq p q) (blocks_eq q p) (blocks_decide p q) (blocks_decide q p) sym sym

ext_turn : (x y : Option Extension) → ext_eq x y ≡ ext_eq y x
ext_turn x y = same_test (ext_eq x y) (ext_eq y x) (ext_decides x y) (ext_decides y x) sym sym

or_turn : (a b c d : Differs) → a ≡ c → b ≡ d → option_or a b ≡ option_or c d
or_turn a b c d p q = ap (λ (x : Differs). option_or x b) p ∙ ap (λ (y : Differs). option_or c y) q

unless_turn : (s t : Bool) (word : DifferenceKind) → s ≡ t → differ_unless s word ≡ differ_unless t word
unless_turn s t word p = ap (λ (x : Bool). differ_unless x word) p

under_turn : (s : Step) (a b : Differs) → a ≡ b → under s a ≡ under s b
under_turn s a b p = ap (under s) p

head_turn : (h g : HeadFields) → head_differs h g ≡ head_differs g h
head_turn h g =
    or_turn _ _ _ _ (unless_turn _ _ _ (bytes_turn h.zero_vector g.zero_vector))
    (or_turn _ _ _ _ (unless_turn _ _ _ (bool_turn (is_ffs3 h.file_system) (is_ffs3 g.file_system)))
    (or_turn _ _ _ _ (unless_turn _ _ _ (number_turn h.length g.length))
    (or_turn _ _ _ _ (unless_turn _ _ _ (number_turn h.attributes g.attributes))
    (or_turn _ _ _ _ (unless_turn _ _ _ (number_turn h.reserved g.reserved))
    (or_turn _ _ _ _ (unless_turn _ _ _ (blocks_turn h.blocks g.blocks)) (unless_turn _ _ _ (ext_turn h.ext g.ext)))))))

mutual
  pub volume_turn : (v w : Meaning) → difference v w ≡ difference w v
  volume_turn (Volume h fs) (Volume g gs) = or_turn _ _ _ _ (head_turn h g) (files_turn 0 fs gs)

  files_turn : (i : ℕ) (fs gs : FileMeanings) → files_differ i fs gs ≡ files_differ i gs fs
  files_turn i NoFiles NoFiles = refl
  files_turn i NoFiles (MoreFiles g gs) = refl
  files_turn i (MoreFiles f fs) NoFiles = refl
  files_turn i (MoreFiles f fs) (MoreFiles g gs) = or_turn _ _ _ _ (under_turn _ _ _ (file_turn f g)) (files_turn (i + 1) fs gs)

  file_turn : (f g : FileMeaning) → file_differs f g ≡ file_differs g f
  file_turn (File n k a c) (File m l b d) =
      or_turn _ _ _ _ (unless_turn _ _ _ (bytes_turn (bytes_of n) (bytes_of m)))
      (or_turn _ _ _ _ (unless_turn _ _ _ (number_turn k l)) (or_turn _ _ _ _ (unless_turn _ _ _ (number_turn a b)) (content_turn c d)))

  content_turn : (c d : ContentMeaning) → content_differs c d ≡ content_differs d c
  content_turn (Plain b) (Plain c) = unless_turn _ _ _ (bytes_turn b c)
  content_turn (Plain b) (Sectioned ss t) = refl
  content_turn (Sectioned ss t) (Plain b) = refl
  content_turn (Sectioned ss t) (Sectioned rs u) = or_turn _ _ _ _ (sections_turn 0 ss rs) (unless_turn _ _ _ (number_turn t u))

  sections_turn : (i : ℕ) (ss rs : SectionMeanings) → sections_differ i ss rs ≡ sections_differ i rs ss
  sections_turn i NoSections NoSections = refl
  sections_turn i NoSections (MoreSections r rs) = refl
  sections_turn i (MoreSections s ss) NoSections = refl
  sections_turn i (MoreSections s ss) (MoreSections r rs) =
      or_turn _ _ _ _ (under_turn _ _ _ (section_turn s r)) (sections_turn (i + 1) ss rs)

  section_turn : (s r : SectionMeaning) → section_differs s r ≡ section_differs r s
  section_turn (Section k e b) (Section l f c) =
      or_turn _ _ _ _ (unless_turn _ _ _ (number_turn k l)) (or_turn _ _ _ _ (unless_turn _ _ _ (bool_turn e f)) (body_turn b c))

  body_turn : (b c : BodyMeaning) → body_differs b c ≡ body_differs c b
  body_turn (Leaf b) (Leaf c) = unless_turn _ _ _ (bytes_turn b c)
  body_turn (Leaf b) (Group rs u) = refl
  body_turn (Leaf b) (Nested w) = refl
  body_turn (Group ss t) (Leaf c) = refl
  body_turn (Group ss t) (Group rs u) = or_turn _ _ _ _ (sections_turn 0 ss rs) (unless_turn _ _ _ (number_turn t u))
  body_turn (Group ss t) (Nested w) = refl
  body_turn (Nested v) (Leaf c) = refl
  body_turn (Nested v) (Group rs u) = refl
  body_turn (Nested v) (Nested w) = volume_turn v w
