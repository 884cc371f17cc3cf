-- Whether two images mean the same at every level, as it is reported to C (PI specification, volume 3, sections 2.1 and
-- 3.2).
use Rattle.std.specs.Prelude.{Option, Some, None}
use Rattle.fv_same.specs.declared.difference.Difference.{Difference}
use Rattle.fv_same.specs.declared.part.PartPlace.{PartPlace}
use Rattle.fv_c.specs.declared.same.FvPartPlace.{FvPartPlace}
use Rattle.fv_c.specs.declared.same.FvSameness.{FvSameness}

-- the place of a part, or all zeros if there is none
abbrev pub reported_place : Option PartPlace → FvPartPlace
reported_place None = record { source = 0; offset = 0; length = 0; has_place = 0; reserved = 0 }
reported_place (Some p) = record { source = p.source; offset = p.offset; length = p.length; has_place = 1; reserved = 0 }

-- the places of the first parts that differ; or, if the images mean the same, no places
abbrev pub reported_sameness : Option Difference → FvSameness
reported_sameness None = record { first = reported_place None; second = reported_place None; is_same = 1; reserved = 0 }
reported_sameness (Some d) = record { first = reported_place d.first; second = reported_place d.second; is_same = 0; reserved = 0 }
