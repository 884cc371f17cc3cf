-- The text of `hobs`, and the content of an image where a volume should be.
use Rattle.std.specs.Prelude.{◌≡◌, ◌≤◌, ℕ, ◌+◌, ◌-◌, List, length, take, drop, [], ◌∷◌, ◌++◌, Option, None, Some, codes}
use Rattle.std.specs.Prelude.{decimal}
use Rattle.fv_hob.specs.Words.{HobForm, hob_type, hob_len, span_of}
use Rattle.fv_hob.specs.declared.span.Span.{Span}
use Rattle.fv_lines.specs.declared.hob_text.SpanContent.{SpanContent}
use Rattle.fv_lines.specs.declared.hob_text.SpanContent.TheVariants.{Outside, Volume, Absent}
use Rattle.fv_tree.specs.Words.{EndsWithVolume}
use Rattle.fv_text.specs.Words.{four_digits, line_feed}
use Rattle.fv_lines.specs.declared.hob_text.MappedImage.{MappedImage}

-- the span is within an image of n bytes whose first byte has the address `base`
abbrev pub IsMapped : ℕ → ℕ → Span → Type 0
IsMapped base n s = (base ≤ s.base) × (s.base + s.length ≤ base + n)

-- the bytes of an image in a span
abbrev pub bytes_in_span : List ℕ → ℕ → Span → List ℕ
bytes_in_span image base s = take s.length (drop (s.base - base) image)

-- the content of the image in the span: Outside, if the span is not within the image; otherwise Volume, if a volume
-- fills the span (`EndsWithVolume`), or Absent, if none does. The body of the volume is not checked
abbrev pub IsSpanContent : List ℕ → ℕ → Span → SpanContent → Type 0
IsSpanContent image base s Outside = IsMapped base (length image) s → ⊥
IsSpanContent image base s Volume = IsMapped base (length image) s × EndsWithVolume (bytes_in_span image base s)
IsSpanContent image base s Absent = IsMapped base (length image) s × (EndsWithVolume (bytes_in_span image base s) → ⊥)

-- an image: its bytes, and the address of the first byte
pub record MappedForm : Type 0 where
  pub bytes : List ℕ
  pub base : ℕ

-- the bytes and the address of an image that the code holds in memory
abbrev pub held_image : Option MappedImage → Option MappedForm
held_image None = None
held_image (Some i) = Some (record { bytes = i.bytes.now; base = i.base })

-- the line of a block of this type and length, which ends with the text `word`
abbrev pub hob_line : ℕ → ℕ → List ℕ → List ℕ
hob_line code n word = codes "hob " ++ (four_digits code ++ (codes " length " ++ (decimal n ++ (word ++ line_feed))))

-- the word for the content of an image in a span, with a space before it: `outside`, `volume` or `absent`
abbrev pub span_content_word : SpanContent → List ℕ
span_content_word Outside = codes " outside"
span_content_word Volume = codes " volume"
span_content_word Absent = codes " absent"

-- the word for the volume that should be in a span; it is empty if there is no image or no span
abbrev pub IsSpanWord : Option MappedForm → Option Span → List ℕ → Type 0
IsSpanWord None span word = word ≡ []
IsSpanWord (Some image) None word = word ≡ []
IsSpanWord (Some image) (Some span) word =
    (s : SpanContent) × IsSpanContent image.bytes image.base span s × (word ≡ span_content_word s)

-- a line for each block, in order, with the word for the volume that the block describes
abbrev pub HobLines : Option MappedForm → List HobForm → List ℕ → Type 0
HobLines image [] text = text ≡ []
HobLines image (h ∷ hs) text = (word : List ℕ) × (rest : List ℕ) × IsSpanWord image (span_of h.kind) word
    × (text ≡ hob_line (hob_type h.kind) (hob_len h.kind) word ++ rest) × HobLines image hs rest

-- the text of `hobs`: a line for each block, in order, and a last line that shows how many bytes the list has
abbrev pub HobsText : Option MappedForm → List HobForm → ℕ → List ℕ → Type 0
HobsText image hobs consumed text =
    (lines : List ℕ) × HobLines image hobs lines × (text ≡ lines ++ (codes "consumed " ++ (decimal consumed ++ line_feed)))
