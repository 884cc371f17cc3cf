-- Portions that are cut one after another from a portion lie one after another. The steps:
-- 1. A portion that is cut and put ahead of a chain begins a longer chain (`chain_put`).
-- 2. The parts of a volume (`chain_parts`), of a file (`chain_file`), of lost bytes (`chain_lost`) and of a section
--    (`chain_section`).
use Rattle.std.proofs.Common.{◌≡◌, ◌≤◌, ◌<◌, ℕ, ◌+◌, ◌-◌, List, [], ◌∷◌, Bool, true, false, length, refl, sym}
use Rattle.std.proofs.Common.{subst, arith, if◌then◌else◌}
use Rattle.fv_base.specs.declared.fault.FaultKind.TheVariants as faults
use Rattle.fv_base.specs.declared.flash.Polarity.{Polarity}
use Rattle.fv_section.specs.Words.{section_header_len_at, section_size_at}
use Rattle.fv_survey.specs.declared.parts.Parts.{Parts}
use Rattle.fv_survey.specs.declared.pieces.Piece.{Piece}
use Rattle.fv_survey.specs.declared.portion.Nesting.{Nesting}
use Rattle.fv_survey.specs.declared.portion.Reading.{Reading}
use Rattle.fv_survey.specs.declared.portion.Reading.TheVariants as readings
use Rattle.fv_survey.specs.declared.row.RowKind.TheVariants as kinds
use Rattle.fv_survey.specs.declared.section_step.BodyForm.{BodyForm}
use Rattle.fv_survey.specs.declared.systems.Files.{Files}
use Rattle.fv_survey.specs.declared.systems.Files.TheVariants as files
use Rattle.fv_survey.specs.Words.{PortionForm, ahead, body_inside, body_portion, body_reading, cells_end, cut, data_reading, file_inside}
use Rattle.fv_survey.specs.Words.{inside, is_opened, is_too_deep, layout_of, lost_inside, none, only, opened, parts_inside}
use Rattle.fv_survey.specs.inner.Bounds.{PartsLie}
use Rattle.fv_survey.specs.inner.Pieces.{IsPiece}
use Rattle.fv_survey.specs.inner.Chains.{Chain}
use Rattle.fv_base.specs.Words.{field}
use Rattle.fv_survey.proofs.FittingLaws.{ahead_by}
use Rattle.fv_survey.proofs.PortionLaws.{length-cut}
use Rattle.fv_survey.proofs.RuleLaws.{SectionLies}

-- a portion that is cut, ahead of a chain that begins where the portion ends
pub chain_put : (reading : Reading) (nest : Nesting) (from to : ℕ) (p : PortionForm) (ps : List PortionForm) (start end : ℕ)
    → start ≡ p.at + from → from ≤ to → to ≤ length p.bytes → Chain nest.depth (p.at + to) end ps
    → Chain nest.depth start end (ahead (cut reading nest from to p) ps)
chain_put reading nest from to p ps start end e l u chain = ahead_by (Chain nest.depth start end) (cut reading nest from to p) ps some bare
  where
    long : length (cut reading nest from to p).bytes ≡ to - from
    long = length-cut reading nest from to p l u

    some : 0 < length (cut reading nest from to p).bytes → Chain nest.depth start end (cut reading nest from to p ∷ ps)
    some s = (refl, sym e, subst (λ k. Chain nest.depth k end ps) (omega (arith, e, l, long)) chain)

    bare : length (cut reading nest from to p).bytes ≡ 0 → Chain nest.depth start end ps
    bare b = subst (λ k. Chain nest.depth k end ps) (omega (arith, e, l, long, b)) chain

-- the body of a volume, from the first byte after the parts before the body
chain_body : (f : Files) (nest : Nesting) (parts : Parts) (p : PortionForm) → parts.first ≤ length p.bytes
    → Chain nest.depth (p.at + parts.first) (p.at + length p.bytes) (body_inside f nest parts p [])
chain_body files.Store nest parts p l =
    chain_put (readings.Run kinds.Store) nest parts.first (length p.bytes) p [] _ _ refl l (omega arith) refl
chain_body files.Unknown nest parts p l =
    chain_put (readings.Lost (only faults.FileSystem)) nest parts.first (length p.bytes) p [] _ _ refl l (omega arith) refl
chain_body _ nest parts p l =
    chain_put (readings.Cells (layout_of parts)) nest parts.first (cells_end parts.first (length p.bytes)) p _ _ _ refl (omega (arith, l))
    (omega (arith, l))
    (chain_put (readings.Lost (only faults.Length)) nest (cells_end parts.first (length p.bytes)) (length p.bytes) p [] _ _ refl
    (omega (arith, l)) (omega arith) refl)

-- the parts of a volume that is all bytes of the portion p
pub chain_parts : (nest : Nesting) (parts : Parts) (p : PortionForm) (start end : ℕ) → PartsLie (length p.bytes) parts → start ≡ p.at
    → end ≡ p.at + length p.bytes → Chain nest.depth start end (parts_inside nest parts p [])
chain_parts nest parts p start end lie s e =
    chain_put (readings.Leaf kinds.VolumeHeader none) nest 0 parts.header p _ start end (omega (arith, s)) (omega arith)
    (omega (arith, lie.ext, lie.end, lie.first, lie.within))
    (chain_put (readings.Run kinds.Between) nest parts.header parts.ext p _ _ end refl lie.ext
    (omega (arith, lie.end, lie.first, lie.within))
    (chain_put (readings.Leaf kinds.ExtHeader none) nest parts.ext parts.ext_end p _ _ end refl lie.end
    (omega (arith, lie.first, lie.within))
    (chain_put (readings.Leaf kinds.Filler none) nest parts.ext_end parts.first p _ _ end refl lie.first lie.within
    (subst (λ k. Chain nest.depth (p.at + parts.first) k (body_inside parts.files nest parts p [])) (sym e)
    (chain_body parts.files nest parts p lie.within)))))

-- the first n bytes of lost bytes
pub chain_lost : (n : ℕ) (p : PortionForm) → n ≤ length p.bytes → Chain (p.nest.depth + 1) p.at (p.at + n) (lost_inside n p [])
chain_lost n p l =
    chain_put (readings.Run kinds.Unread) (inside p.nest) 0 n p [] _ _ (omega arith) (omega arith) l refl

-- the parts of a file
pub chain_file : (polarity : Polarity) (piece : Piece) (p : PortionForm) → IsPiece (length p.bytes) piece
    → Chain (p.nest.depth + 1) p.at (p.at + piece.span) (file_inside polarity piece p [])
chain_file polarity piece p lies =
    chain_put (readings.Leaf kinds.FileHeader none) (inside p.nest) 0 piece.header p _ _ _ (omega arith) (omega arith)
    (omega (arith, lies.header, lies.size, lies.within))
    (chain_put (data_reading polarity piece.sort piece.code (field piece.header (piece.size - piece.header) p.bytes)) (inside p.nest)
    piece.header piece.size p _ _ _ refl lies.header (omega (arith, lies.size, lies.within))
    (chain_put (readings.Leaf kinds.Filler none) (inside p.nest) piece.size piece.span p [] _ _ refl lies.size lies.within refl))

-- the body of a section
chain_content : (nest : Nesting) (form : BodyForm) (p : PortionForm) → SectionLies p.bytes
    → Chain nest.depth (p.at + section_header_len_at p.bytes) (p.at + section_size_at p.bytes) (ahead (body_portion nest form p) [])
chain_content nest form p lies = go (is_too_deep nest form) (is_opened form) where
  within : section_size_at p.bytes ≤ length p.bytes
  within = omega (arith, lies.next, lies.within)

  go : (deep open' : Bool) → Chain nest.depth (p.at + section_header_len_at p.bytes) (p.at + section_size_at p.bytes)
      (ahead (if deep then cut (readings.Lost (only faults.Depth)) nest (section_header_len_at p.bytes) (section_size_at p.bytes) p
      else cut (body_reading form) (if open' then opened nest else nest) (section_header_len_at p.bytes) (section_size_at p.bytes) p) [])
  go true open' = chain_put (readings.Lost (only faults.Depth)) nest _ _ p [] _ _ refl lies.size within refl
  go false true = chain_put (body_reading form) (opened nest) _ _ p [] _ _ refl lies.size within refl
  go false false = chain_put (body_reading form) nest _ _ p [] _ _ refl lies.size within refl

-- the header and the body of a section
pub chain_section : (form : BodyForm) (p : PortionForm) → SectionLies p.bytes
    → Chain (p.nest.depth + 1) p.at (p.at + section_size_at p.bytes)
    (ahead (cut (readings.Leaf kinds.SectionHeader none) (inside p.nest) 0 (section_header_len_at p.bytes) p)
    (ahead (body_portion (inside p.nest) form p) []))
chain_section form p lies =
    chain_put (readings.Leaf kinds.SectionHeader none) (inside p.nest) 0 (section_header_len_at p.bytes) p _ _ _ (omega arith)
    (omega arith) (omega (arith, lies.size, lies.next, lies.within)) (chain_content (inside p.nest) form p lies)
