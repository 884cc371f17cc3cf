-- The contents of a section whose header is already read (PI specification, volume 3, sections 3.2.5.2 and 3.2.5.7).
use Rattle.std.specs.Prelude.{ℕ, List, Result, Ok, Err}
use Rattle.fv_section.specs.Words.{FrameForm}
use Rattle.fv_open.specs.Contents.{contents}
use Rattle.fv_open.specs.Headers.{head_in}
use Rattle.fv_open.specs.declared.fault.OpenFault.{OpenFault}
use Rattle.fv_open.specs.declared.way.Way.{Way}

-- the contents of the section f, in at most limit bytes, and the way that gave them
abbrev pub opened_frame : ℕ → FrameForm → Result (Way × List ℕ) OpenFault
opened_frame limit f = elim (head_in f) as (λ _. Result (Way × List ℕ) OpenFault) [ Ok e ↦ contents limit f e | Err x ↦ Err x ]
