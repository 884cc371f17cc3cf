-- The data of a file can be seen as the body of a section (`data_body`). This body contains the same volumes as the
-- data (`data_volumes`, `data_held`), and the same image (`data_image`). The file's size is one more than the
-- body's size (`data_size`).
use Rattle.std.proofs.Common.{◌≡◌, ◌+◌, ℕ, List, arith}
use Rattle.fv_base.proofs.Laws.{common_steps}
use Rattle.fv_tree.specs.Words.{FileMeaning, content_of, volumes_in_body, volumes_in_content, volumes_in_file}
use Rattle.fv_tree.specs.inner.Sizes.{body_size, file_size}
use Rattle.fv_canon.specs.inner.ImageOf.{data_body, body_image, written_data}

pub data_volumes : (m : FileMeaning) → volumes_in_body (data_body m) ≡ volumes_in_file m
data_volumes m = grind (arith, common_steps)

pub data_held : (m : FileMeaning) → volumes_in_body (data_body m) ≡ volumes_in_content (content_of m)
data_held m = grind (arith, common_steps)

pub data_image : (m : FileMeaning) (starts : List ℕ) → body_image (data_body m) starts ≡ written_data (content_of m) starts
data_image m starts = grind (arith, common_steps)

pub data_size : (m : FileMeaning) → file_size m ≡ body_size (data_body m) + 1
data_size m = grind (arith, common_steps)
