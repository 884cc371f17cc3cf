-- Portions on a stack, and the portions that a step puts back. The steps:
-- 1. The last item of a stack is its first portion (`stack_push`).
-- 2. A portion ahead of some portions and then of others is ahead of both (`ahead_append` up to `after_append`).
-- 3. A portion that is cut has as many bytes as it should (`length-cut`).
use Rattle.std.proofs.Common.{◌≡◌, ◌≤◌, ℕ, ◌-◌, ◌==◌, List, [], ◌∷◌, ◌++◌, Bool, true, false, nat_lt, ◌||◌, length, drop, refl, ap, ◌∙◌, arith, if◌then◌else◌}
use Rattle.std.proofs.Common.{length-drop, length-take-le}
use Rattle.fv_survey.specs.declared.portion.Portion.{Portion}
use Rattle.fv_survey.specs.declared.portion.Nesting.{Nesting}
use Rattle.fv_survey.specs.declared.portion.Reading.{Reading}
use Rattle.fv_survey.specs.declared.portion.Reading.TheVariants as readings
use Rattle.fv_survey.specs.declared.pieces.Sort.{Sort}
use Rattle.fv_survey.specs.declared.pieces.Sort.TheVariants as sorts
use Rattle.fv_survey.specs.declared.pieces.Piece.{Piece}
use Rattle.fv_survey.specs.declared.parts.Parts.{Parts}
use Rattle.fv_survey.specs.declared.systems.Files.{Files}
use Rattle.fv_survey.specs.declared.systems.Files.TheVariants as files
use Rattle.fv_base.specs.declared.flash.Polarity.{Polarity}
use Rattle.fv_survey.specs.Words.{PortionForm, after_as, after_first, ahead, begins_section, body_at, body_form, body_inside}
use Rattle.fv_survey.specs.Words.{body_portion, cells_end, cut, data_reading, file_inside, first_start, found_volume, inside, inside_as}
use Rattle.fv_survey.specs.Words.{inside_first, kind_at, layout_of, lost_inside, next_at, none, only, parts_by, parts_inside, piece_by}
use Rattle.fv_survey.specs.Words.{piece_inside, place_findings, portion_form, run_inside, run_row, sections_after, sections_inside, stack}
use Rattle.fv_survey.specs.Words.{volume_inside}
use Rattle.fv_base.specs.Words.{field}
use Rattle.fv_base.specs.declared.fault.FaultKind.TheVariants as faults
use Rattle.fv_section.specs.Words.{section_header_len_at, section_size_at}
use Rattle.fv_survey.specs.declared.row.RowKind.TheVariants as kinds

pub stack_push : (ps : List Portion) (p : Portion) → stack (ps ++ (p ∷ [])) ≡ portion_form p ∷ stack ps
stack_push [] p = refl
stack_push (q ∷ ps) p = ap (λ l. l ++ (portion_form q ∷ [])) (stack_push ps p)

pub length-cut : (reading : Reading) (nest : Nesting) (from to : ℕ) (p : PortionForm) → from ≤ to → to ≤ length p.bytes
    → length (cut reading nest from to p).bytes ≡ to - from
length-cut reading nest from to p l u =
    length-take-le (to - from) (drop from p.bytes) (omega (arith, length-drop from p.bytes, l, u))

-- a portion is put ahead if it has bytes
pub ahead_none : (p : PortionForm) (ps : List PortionForm) → (length p.bytes == 0) ≡ true → ahead p ps ≡ ps
ahead_none p ps e = rw e refl

pub ahead_some : (p : PortionForm) (ps : List PortionForm) → (length p.bytes == 0) ≡ false → ahead p ps ≡ p ∷ ps
ahead_some p ps e = rw e refl

pub ahead_append : (p : PortionForm) (ps qs : List PortionForm) → ahead p (ps ++ qs) ≡ ahead p ps ++ qs
ahead_append p ps qs = go (length p.bytes == 0) where
  go : (v : Bool) → (if v then ps ++ qs else p ∷ (ps ++ qs)) ≡ (if v then ps else p ∷ ps) ++ qs
  go true = refl
  go false = refl

-- one, two, three and five portions ahead of others
two_append : (a b : PortionForm) (cs ds qs : List PortionForm) → cs ≡ ds ++ qs → ahead a (ahead b cs) ≡ ahead a (ahead b ds) ++ qs
two_append a b cs ds qs e = ap (λ x. ahead a (ahead b x)) e ∙ ap (ahead a) (ahead_append b ds qs) ∙ ahead_append a (ahead b ds) qs

three_append : (a b c : PortionForm) (ps qs : List PortionForm)
    → ahead a (ahead b (ahead c (ps ++ qs))) ≡ ahead a (ahead b (ahead c ps)) ++ qs
three_append a b c ps qs = two_append a b (ahead c (ps ++ qs)) (ahead c ps) qs (ahead_append c ps qs)

four_append : (a b c d : PortionForm) (es fs qs : List PortionForm) → es ≡ fs ++ qs
    → ahead a (ahead b (ahead c (ahead d es))) ≡ ahead a (ahead b (ahead c (ahead d fs))) ++ qs
four_append a b c d es fs qs e =
    two_append a b (ahead c (ahead d es)) (ahead c (ahead d fs)) qs (two_append c d es fs qs e)

cells_append : (nest : Nesting) (parts : Parts) (p : PortionForm) (ps qs : List PortionForm)
    → body_inside files.Ffs2 nest parts p (ps ++ qs) ≡ body_inside files.Ffs2 nest parts p ps ++ qs
cells_append nest parts p ps qs =
    two_append (cut (readings.Cells (layout_of parts)) nest parts.first (cells_end parts.first (length p.bytes)) p)
    (cut (readings.Lost (only faults.Length)) nest (cells_end parts.first (length p.bytes)) (length p.bytes) p) (ps ++ qs) ps qs refl

body_append : (f : Files) (nest : Nesting) (parts : Parts) (p : PortionForm) (ps qs : List PortionForm)
    → body_inside f nest parts p (ps ++ qs) ≡ body_inside f nest parts p ps ++ qs
body_append files.Store nest parts p ps qs =
    ahead_append (cut (readings.Run kinds.Store) nest parts.first (length p.bytes) p) ps qs
body_append files.Unknown nest parts p ps qs =
    ahead_append (cut (readings.Lost (only faults.FileSystem)) nest parts.first (length p.bytes) p) ps qs
body_append files.Ffs1 nest parts p ps qs = cells_append nest parts p ps qs
body_append files.Ffs2 nest parts p ps qs = cells_append nest parts p ps qs
body_append files.Ffs3 nest parts p ps qs = cells_append nest parts p ps qs

parts_append : (nest : Nesting) (parts : Parts) (p : PortionForm) (ps qs : List PortionForm)
    → parts_inside nest parts p (ps ++ qs) ≡ parts_inside nest parts p ps ++ qs
parts_append nest parts p ps qs =
    four_append (cut (readings.Leaf kinds.VolumeHeader none) nest 0 parts.header p)
    (cut (readings.Run kinds.Between) nest parts.header parts.ext p)
    (cut (readings.Leaf kinds.ExtHeader none) nest parts.ext parts.ext_end p)
    (cut (readings.Leaf kinds.Filler none) nest parts.ext_end parts.first p)
    (body_inside parts.files nest parts p (ps ++ qs)) (body_inside parts.files nest parts p ps) qs
    (body_append parts.files nest parts p ps qs)

run_append : (p : PortionForm) (ps qs : List PortionForm) → run_inside p (ps ++ qs) ≡ run_inside p ps ++ qs
run_append p ps qs = go (nat_lt 0 (first_start p.bytes) || (p.nest.found == 0)) where
  go : (v : Bool) → (if v then ps ++ qs else volume_inside (found_volume p) (ps ++ qs))
      ≡ (if v then ps else volume_inside (found_volume p) ps) ++ qs
  go true = refl
  go false = parts_append (inside (found_volume p).nest) (parts_by (found_volume p).bytes) (found_volume p) ps qs

file_append : (polarity : Polarity) (piece : Piece) (p : PortionForm) (ps qs : List PortionForm)
    → file_inside polarity piece p (ps ++ qs) ≡ file_inside polarity piece p ps ++ qs
file_append polarity piece p ps qs =
    three_append (cut (readings.Leaf kinds.FileHeader none) (inside p.nest) 0 piece.header p)
    (cut (data_reading polarity piece.sort piece.code (field piece.header (piece.size - piece.header) p.bytes))
    (inside p.nest) piece.header piece.size p)
    (cut (readings.Leaf kinds.Filler none) (inside p.nest) piece.size piece.span p) ps qs

lost_append : (n : ℕ) (p : PortionForm) (ps qs : List PortionForm) → lost_inside n p (ps ++ qs) ≡ lost_inside n p ps ++ qs
lost_append n p ps qs = ahead_append (cut (readings.Run kinds.Unread) (inside p.nest) 0 n p) ps qs

piece_append : (polarity : Polarity) (sort : Sort) (piece : Piece) (p : PortionForm) (ps qs : List PortionForm)
    → piece_inside polarity sort piece p (ps ++ qs) ≡ piece_inside polarity sort piece p ps ++ qs
piece_append polarity sorts.Free piece p ps qs = refl
piece_append polarity sorts.Stub piece p ps qs = refl
piece_append polarity sorts.Lost piece p ps qs = lost_append piece.span p ps qs
piece_append polarity sorts.File piece p ps qs = file_append polarity piece p ps qs
piece_append polarity sorts.Pad piece p ps qs = file_append polarity piece p ps qs
piece_append polarity sorts.Dead piece p ps qs = file_append polarity piece p ps qs

sections_append : (p : PortionForm) (ps qs : List PortionForm) → sections_inside p (ps ++ qs) ≡ sections_inside p ps ++ qs
sections_append p ps qs = go (begins_section p.bytes)
    (cut (readings.Leaf kinds.SectionHeader none) (inside p.nest) 0 (section_header_len_at p.bytes) p)
    (body_portion (inside p.nest) (body_form (kind_at p.bytes) (body_at p.bytes)) p)
  where
    go : (v : Bool) (a b : PortionForm) → (if v then ahead a (ahead b (ps ++ qs)) else lost_inside (length p.bytes) p (ps ++ qs))
        ≡ (if v then ahead a (ahead b ps) else lost_inside (length p.bytes) p ps) ++ qs
    go true a b = two_append a b (ps ++ qs) ps qs refl
    go false a b = lost_append (length p.bytes) p ps qs

inside_append : (reading : Reading) (p : PortionForm) (ps qs : List PortionForm)
    → inside_as reading p (ps ++ qs) ≡ inside_as reading p ps ++ qs
inside_append (readings.Leaf kind findings) p ps qs = refl
inside_append (readings.Run kind) p ps qs = run_append p ps qs
inside_append (readings.Lost findings) p ps qs = lost_append (length p.bytes) p ps qs
inside_append readings.Volume p ps qs = parts_append (inside p.nest) (parts_by p.bytes) p ps qs
inside_append (readings.Cells layout) p ps qs =
    piece_append layout.polarity (piece_by layout p.bytes).sort (piece_by layout p.bytes) p ps qs
inside_append (readings.Sections odd) p ps qs = sections_append p ps qs

sections_behind : (p : PortionForm) (ps qs : List PortionForm) → sections_after p (ps ++ qs) ≡ sections_after p ps ++ qs
sections_behind p ps qs = go (begins_section p.bytes)
    (cut (readings.Leaf kinds.Filler none) p.nest (section_size_at p.bytes) (next_at p.bytes) p)
    (cut (readings.Sections (place_findings (next_at p.bytes) (length p.bytes))) p.nest (next_at p.bytes) (length p.bytes) p)
  where
    go : (v : Bool) (a b : PortionForm) → (if v then ahead a (ahead b (ps ++ qs)) else ps ++ qs)
        ≡ (if v then ahead a (ahead b ps) else ps) ++ qs
    go true a b = two_append a b (ps ++ qs) ps qs refl
    go false a b = refl

after_append : (reading : Reading) (p : PortionForm) (ps qs : List PortionForm)
    → after_as reading p (ps ++ qs) ≡ after_as reading p ps ++ qs
after_append (readings.Leaf kind findings) p ps qs = refl
after_append (readings.Run kind) p ps qs =
    ahead_append (cut (readings.Run kind) p.nest (run_row kind p).length (length p.bytes) p) ps qs
after_append (readings.Lost findings) p ps qs = refl
after_append readings.Volume p ps qs = refl
after_append (readings.Cells layout) p ps qs =
    ahead_append (cut (readings.Cells layout) p.nest (piece_by layout p.bytes).span (length p.bytes) p) ps qs
after_append (readings.Sections odd) p ps qs = sections_behind p ps qs

-- the portions in the first row, before others, are the portions in it and then the others
pub inside_before : (p : PortionForm) (ps : List PortionForm) → inside_first p ps ≡ inside_first p [] ++ ps
inside_before p ps = inside_append p.reading p [] ps

-- and so are the portions after the first row
pub after_before : (p : PortionForm) (ps : List PortionForm) → after_first p ps ≡ after_first p [] ++ ps
after_before p ps = after_append p.reading p [] ps
