-- A part as contracts see it.
use Rattle.fv_same.specs.Meant.{says}
use Rattle.fv_same.specs.Parts.{PlacedPart}
use Rattle.fv_same.specs.declared.part.Part.{Part}

abbrev pub placed_form : Part → PlacedPart
placed_form p = record {
  place = p.place;
  part = record { level = p.level; depth = p.depth; kind = p.kind; says = says p.kind p.bytes.now };
  outside = p.outside;
  bytes = p.bytes.now;
}
