-- Which rows a list of starts covers.
use Rattle.std.specs.Prelude.{ℕ, List}
use Rattle.fv_canon.specs.LayoutForms.{BeginsWithStarts}
use Rattle.fv_rows.specs.Words.{TreeRow}
use Rattle.fv_rows.specs.inner.RowVolumes.{Followed, volumes_of}

-- each of these rows is followed by the rows of its contents, and in this state of the walk, the starts begin with the
-- starts of the files of the volumes among these rows
abbrev pub Covers : {D : Type 0} (starts : D → List ℕ) → D → List TreeRow → Type 0
Covers starts d rows = Followed rows × BeginsWithStarts (volumes_of rows) (starts d)
