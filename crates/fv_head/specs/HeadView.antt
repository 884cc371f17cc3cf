-- The fields of a volume header that is kept in memory (PI specification, volume 3, sections 3.2.1.1 and 3.2.1.2).
use Rattle.fv_head.specs.declared.head.VolumeHead.TheInside.{Inside}
use Rattle.fv_head.specs.Head.{HeadFields}

-- the fields that a `VolumeHead` holds
abbrev pub fields_held : Inside → HeadFields
fields_held a = record {
  zero_vector = a.zero_vector;
  file_system = a.file_system;
  length = a.length;
  attributes = a.attributes.0;
  reserved = a.reserved;
  blocks = a.blocks;
  ext = a.ext;
}
