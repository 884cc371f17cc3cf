-- The blocks of a hand-off list, as they are reported to C (PI specification, volume 3, section 5).
use Rattle.std.specs.Option.{unwrap_or}
use Rattle.std.specs.Prelude.{ℕ, ◌+◌, List, take}
use Rattle.fv_hob.specs.Words.{IsFirstHobFault, hob_fault_number, HobForm, hob_len, hob_type, IsHobList, span_of}
use Rattle.fv_hob.specs.declared.fault.HobFault.{HobFault}
use Rattle.fv_hob.specs.declared.fault.HobFaultKind.{HobFaultKind}
use Rattle.fv_hob.specs.declared.fault.HobFaultKind.TheVariants as kinds
use Rattle.fv_hob.specs.declared.span.Span.{Span}
use Rattle.fv_c.specs.declared.hobs.FvHob.{FvHob}
use Rattle.fv_c.specs.declared.reports.FvFault.{FvFault}

-- the row for a block: its type, its length, and the base and length of the volume that it describes, or zeros
abbrev pub reported_hob : HobForm → FvHob
reported_hob h =
    let span : Span = unwrap_or (span_of h.kind) (record { base = 0; length = 0 }) in
    record {
      volume_base = span.base;
      volume_length = span.length;
      hob_type = hob_type h.kind;
      hob_length = hob_len h.kind;
      reserved = 0;
    }

-- the result of a call that stops at a fault of a list: 24 if memory ran out, and otherwise 768 plus the number of the
-- fault's kind
abbrev pub hob_result : HobFaultKind → ℕ
hob_result kinds.OutOfMemory = 24
hob_result kind = 768 + hob_fault_number kind

-- the report of a fault of a list
abbrev pub reported_hob_fault : HobFault → FvFault
reported_hob_fault f = record { offset = f.offset; result = hob_result f.kind; depth = 0; input = 0; reserved = 0 }

-- the bytes do not begin with a hand-off list, and this is their first fault
pub record NoHobs (b : List ℕ) (f : HobFault) : Type 0 where
  pub none : (all : List HobForm) (n : ℕ) → IsHobList all (take n b) → ⊥
  pub first : IsFirstHobFault b f
