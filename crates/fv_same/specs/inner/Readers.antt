-- A source that is read, as contracts see it.
use Rattle.fv_same.specs.Parts.{ReaderForm}
use Rattle.fv_same.specs.declared.reader.Reader.{Reader}

abbrev pub reader_form : Reader → ReaderForm
reader_form x = record {
  number = x.number;
  level = x.level;
  bytes = x.bytes.now;
  next = x.next;
  around = x.around.items;
  updates = x.updates.keys;
}
