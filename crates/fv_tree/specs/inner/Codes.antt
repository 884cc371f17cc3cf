-- A meaning as a tree of numbers. Different meanings have different trees. These are proofs, which are in specs/
-- because ghost members cite them.
use Rattle.std.specs.Prelude.{◌≡◌, ℕ, List, Bool, true, false, Option, refl}
use Rattle.std.specs.Coded.{Coded, code_by, coded×, coded_ℕ, coded_bool, coded_list, coded_option}
use base.Stored.{Gv, gnil, gnum, gcons}
use Rattle.fv_base.specs.Words.{bytes_of, guid_of}
use Rattle.fv_base.specs.declared.flash.FileSystem.{FileSystem}
use Rattle.fv_base.specs.declared.guid.Guid.{Guid}
use Rattle.fv_base.specs.declared.flash.FileSystem.TheVariants.{Ffs2, Ffs3}
use Rattle.fv_head.specs.Words.{Extension, HeadFields}
use Rattle.fv_tree.specs.Difference.{is_ffs3}
use Rattle.fv_tree.specs.Meaning.{Meaning, Volume, FileMeanings, NoFiles, MoreFiles, FileMeaning, File, ContentMeaning}
use Rattle.fv_tree.specs.Meaning.{Plain, Sectioned, SectionMeanings, NoSections, MoreSections, SectionMeaning, Section}
use Rattle.fv_tree.specs.Meaning.{BodyMeaning, Leaf, Group, Nested}

abbrev pub bytes_code : Coded (List ℕ)
bytes_code = coded_list coded_ℕ

abbrev pub guid_code : Coded Guid
guid_code = code_by (List ℕ) bytes_code bytes_of guid_of (λ _. refl)

abbrev pub system_by : Bool → FileSystem
system_by false = Ffs2
system_by true = Ffs3

pub system_back : (s : FileSystem) → system_by (is_ffs3 s) ≡ s
system_back Ffs2 = refl
system_back Ffs3 = refl

abbrev pub extension_code : Coded Extension
extension_code =
    code_by (Guid × (List (ℕ × List ℕ) × List ℕ))
    (coded× guid_code (coded× (coded_list (coded× coded_ℕ bytes_code)) bytes_code))
    (λ x. (x.name, (x.entries, x.tail))) (λ p. record { name = p.0; entries = p.1.0; tail = p.1.1 }) (λ _. refl)

abbrev pub head_code : Coded HeadFields
head_code =
    code_by (List ℕ × (FileSystem × (ℕ × (ℕ × (ℕ × (List (ℕ × ℕ) × Option Extension))))))
    (coded× bytes_code (coded× (code_by Bool coded_bool is_ffs3 system_by system_back) (coded× coded_ℕ
    (coded× coded_ℕ (coded× coded_ℕ (coded× (coded_list (coded× coded_ℕ coded_ℕ)) (coded_option extension_code)))))))
    (λ h. (h.zero_vector, (h.file_system, (h.length, (h.attributes, (h.reserved, (h.blocks, h.ext)))))))
    (λ p. record {
      zero_vector = p.0;
      file_system = p.1.0;
      length = p.1.1.0;
      attributes = p.1.1.1.0;
      reserved = p.1.1.1.1.0;
      blocks =
          p.1.1.1.1.1.0;
      ext = p.1.1.1.1.1.1;
    })
    (λ _. refl)

abbrev pub bool_to : Bool → Gv
bool_to true = gnil
bool_to false = gnum 0

bool_inj : (x y : Bool) → bool_to x ≡ bool_to y → x ≡ y
bool_inj true true e = refl
bool_inj true false e = cc
bool_inj false true e = cc
bool_inj false false e = refl

abbrev mutual
  pub volume_to : Meaning → Gv
  volume_to (Volume h fs) = gcons (head_code.code h) (files_to fs)

  pub files_to : FileMeanings → Gv
  files_to NoFiles = gnil
  files_to (MoreFiles f fs) = gcons (file_to f) (files_to fs)

  pub file_to : FileMeaning → Gv
  file_to (File n k a c) = gcons (guid_code.code n) (gcons (gnum k) (gcons (gnum a) (content_to c)))

  pub content_to : ContentMeaning → Gv
  content_to (Plain b) = gcons gnil (bytes_code.code b)
  content_to (Sectioned ss t) = gcons (gnum t) (sections_to ss)

  pub section_to : SectionMeaning → Gv
  section_to (Section k e b) = gcons (gnum k) (gcons (bool_to e) (body_to b))

  pub body_to : BodyMeaning → Gv
  body_to (Leaf b) = gcons gnil (bytes_code.code b)
  body_to (Group ss t) = gcons (gnum t) (sections_to ss)
  body_to (Nested v) = gcons (gcons gnil gnil) (volume_to v)

  pub sections_to : SectionMeanings → Gv
  sections_to NoSections = gnil
  sections_to (MoreSections s ss) = gcons (section_to s) (sections_to ss)

mutual
  pub volume_inj : (x y : Meaning) → volume_to x ≡ volume_to y → x ≡ y
  volume_inj (Volume h fs) (Volume h' fs') e =
      let a : h ≡ h' = head_code.inj h h' cc in
      let b : fs ≡ fs' = files_inj fs fs' cc in cc

  pub files_inj : (x y : FileMeanings) → files_to x ≡ files_to y → x ≡ y
  files_inj NoFiles NoFiles e = refl
  files_inj (MoreFiles f fs) (MoreFiles g gs) e = cc (file_inj f g cc, files_inj fs gs cc)
  files_inj _ _ e = cc

  pub file_inj : (x y : FileMeaning) → file_to x ≡ file_to y → x ≡ y
  file_inj (File n k a c) (File n' k' a' c') e =
      let p : n ≡ n' = guid_code.inj n n' cc in
      let q : c ≡ c' = content_inj c c' cc in cc

  pub content_inj : (x y : ContentMeaning) → content_to x ≡ content_to y → x ≡ y
  content_inj (Plain b) (Plain c) e = let p : b ≡ c = bytes_code.inj b c cc in cc
  content_inj (Sectioned ss t) (Sectioned ss' t') e = let p : ss ≡ ss' = sections_inj ss ss' cc in cc
  content_inj _ _ e = cc

  pub section_inj : (x y : SectionMeaning) → section_to x ≡ section_to y → x ≡ y
  section_inj (Section k e b) (Section k' e' b') h =
      let p : e ≡ e' = bool_inj e e' cc in
      let q : b ≡ b' = body_inj b b' cc in cc

  pub body_inj : (x y : BodyMeaning) → body_to x ≡ body_to y → x ≡ y
  body_inj (Leaf b) (Leaf c) e = let p : b ≡ c = bytes_code.inj b c cc in cc
  body_inj (Group ss t) (Group ss' t') e = let p : ss ≡ ss' = sections_inj ss ss' cc in cc
  body_inj (Nested v) (Nested w) e = let p : v ≡ w = volume_inj v w cc in cc
  body_inj _ _ e = cc

  pub sections_inj : (x y : SectionMeanings) → sections_to x ≡ sections_to y → x ≡ y
  sections_inj NoSections NoSections e = refl
  sections_inj (MoreSections s ss) (MoreSections t ts) e = cc (section_inj s t cc, sections_inj ss ts cc)
  sections_inj _ _ e = cc

abbrev pub volume_code : Coded Meaning
volume_code = record { code = volume_to; inj = volume_inj }

abbrev pub file_code : Coded FileMeaning
file_code = record { code = file_to; inj = file_inj }

abbrev pub section_code : Coded SectionMeaning
section_code = record { code = section_to; inj = section_inj }
