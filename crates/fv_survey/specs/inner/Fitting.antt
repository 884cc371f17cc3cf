-- A section as a step reads it, and the volumes that have files.
use Rattle.std.specs.Prelude.{◌≡◌, ℕ, List, Bool, true, false, if◌then◌else◌}
use Rattle.fv_section.specs.Words.{section_header_len_at, section_size_at}
use Rattle.fv_survey.specs.declared.portion.Nesting.{Nesting}
use Rattle.fv_survey.specs.declared.portion.Reading.TheVariants as readings
use Rattle.fv_survey.specs.declared.section_step.SectionPlace.{SectionPlace}
use Rattle.fv_survey.specs.declared.systems.Files.{Files}
use Rattle.fv_survey.specs.declared.systems.Files.TheVariants as files
use Rattle.fv_base.specs.declared.fault.FaultKind.TheVariants as faults
use Rattle.fv_survey.specs.FindingSets.{only}
use Rattle.fv_survey.specs.Portions.{PortionForm, cut, opened}
use Rattle.fv_survey.specs.Reading.{kind_at, body_at, next_at, is_too_deep, body_reading}
use Rattle.fv_survey.specs.SectionRules.{begins_section, body_form, is_opened}

-- the volume has files
abbrev pub is_filed : Files → Bool
is_filed files.Store = false
is_filed files.Unknown = false
is_filed _ = true

-- the bytes begin with this section
pub record IsPlace (b : List ℕ) (s : SectionPlace) : Type 0 where
  pub begins : begins_section b ≡ true
  pub header : s.header ≡ section_header_len_at b
  pub size : s.size ≡ section_size_at b
  pub code : s.code ≡ kind_at b
  pub form : s.form ≡ body_form (kind_at b) (body_at b)
  pub next : s.next ≡ next_at b

-- the body of this section as a portion (`body_portion`)
abbrev pub body_at_place : Nesting → SectionPlace → PortionForm → PortionForm
body_at_place nest s p =
    if is_too_deep nest s.form then cut (readings.Lost (only faults.Depth)) nest s.header s.size p
    else cut (body_reading s.form) (if is_opened s.form then opened nest else nest) s.header s.size p
