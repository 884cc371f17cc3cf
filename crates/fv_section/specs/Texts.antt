-- The inner formats of three types of leaf sections (PI specification, volume 3, sections 3.2.5.14, 3.2.5.15 and
-- 3.2.5.6).
use Rattle.std.specs.Prelude.{◌≡◌, ◌≢◌, ℕ, ◌%◌, List, [], ◌∷◌, ◌++◌, length}
use Rattle.std.specs.List.{AllByRecursion}
use Rattle.fv_base.specs.Words.{bytes_of, words_of, le}
use Rattle.fv_base.specs.declared.guid.Guid.{Guid}

-- b consists of the 16-bit units of a text, followed by a zero unit; no unit of the text is zero
pub record IsText (b text : List ℕ) : Type 0 where
  pub joined : b ≡ text ++ (0 ∷ 0 ∷ [])
  pub whole_units : length text % 2 ≡ 0
  pub none_zero : AllByRecursion (λ unit. unit ≢ 0) (words_of text)

-- b is a two-byte number, followed by a text and its zero unit
pub record IsVersion (b : List ℕ) (build : ℕ) (text : List ℕ) : Type 0 where
  pub number : List ℕ
  pub units : List ℕ
  pub joined : b ≡ number ++ units
  pub two : length number ≡ 2
  pub spells : le number ≡ build
  pub is_text : IsText units text

-- b is the 16 bytes of a GUID, followed by rest
pub record IsFreeform (b : List ℕ) (guid : Guid) (rest : List ℕ) : Type 0 where
  pub joined : b ≡ bytes_of guid ++ rest
  pub guid_length : length (bytes_of guid) ≡ 16
