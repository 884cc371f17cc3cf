-- How sections are read by rules 13 and 14 of the tolerant reading (PI specification, volume 3, sections 3.2.4 and
-- 3.2.5).
use Rattle.std.specs.Prelude.{ℕ, ◌%◌, ◌==◌, nat_le, nat_lt, ◌&&◌, ◌||◌, not, Bool, true, false, if◌then◌else◌, List, length, drop, slice_index}
use Rattle.fv_base.specs.declared.fault.FaultKind.TheVariants as faults
use Rattle.fv_head.specs.Words.{is_one_volume}
use Rattle.fv_section.specs.Words.{has_section_size, up_to_4}
use Rattle.fv_survey.specs.declared.findings.Findings.{Findings}
use Rattle.fv_survey.specs.declared.section_step.BodyForm.{BodyForm}
use Rattle.fv_survey.specs.declared.section_step.BodyForm.TheVariants as forms
use Rattle.fv_survey.specs.FindingSets.{none, only, with_if}
use Rattle.fv_tree.specs.Words.{group_kind, volume_kind}

-- the bytes begin with a section
abbrev pub begins_section : List ℕ → Bool
begins_section b = nat_le 4 (length b) && has_section_size b

-- why the bytes begin with no section: there are fewer than 4, or the size of the section is wrong
abbrev pub section_findings : List ℕ → Findings
section_findings b = if nat_lt (length b) 4 then only faults.SectionTail else only faults.SectionSize

-- a section may follow here: one begins, or there are no more bytes
abbrev pub may_follow : List ℕ → Bool
may_follow b = (length b == 0) || begins_section b

-- a section begins here, of a type that the specification defines
abbrev pub begins_usual : List ℕ → Bool
begins_usual b = begins_section b && nat_le 1 (slice_index b 3) && nat_le (slice_index b 3) 0x1c

-- the first multiple of 4 at or after n, or the end of the bytes
abbrev pub section_end : ℕ → List ℕ → ℕ
section_end n b = if nat_le (up_to_4 n) (length b) then up_to_4 n else length b

-- where the next section begins after a section of n bytes (rule 13): at the next multiple of 4; or directly after the
-- section, if only there a section begins
abbrev pub next_section : ℕ → List ℕ → ℕ
next_section n b =
    if not (may_follow (drop (section_end n b) b)) && begins_usual (drop n b) then n else section_end n b

-- the findings of a section that begins at the offset `at` of n bytes: its place is wrong if it is not a multiple of 4
abbrev pub place_findings : ℕ → ℕ → Findings
place_findings at n = with_if (not (at % 4 == 0) && nat_lt at n) faults.SectionSize none

-- how the body b of a section of this type is read (rule 14)
abbrev pub body_form : ℕ → List ℕ → BodyForm
body_form kind b =
    if kind == group_kind then forms.Group
    else (if (kind == volume_kind) && is_one_volume b then forms.Volume
    else (if (kind == 0x01) || (kind == 0x02) then forms.Packed else forms.Plain))

-- the body is opened: it is a group or a volume
abbrev pub is_opened : BodyForm → Bool
is_opened forms.Group = true
is_opened forms.Volume = true
is_opened _ = false
