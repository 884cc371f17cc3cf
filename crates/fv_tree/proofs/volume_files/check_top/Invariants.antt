use Rattle.std.proofs.Common.{◌≡◌, ◌+◌, List, ℕ, map, drop, length}
use Rattle.fv_tree.specs.Words.{file_form, TopAtEnd}
use Rattle.fv_tree.proofs.volume_files.check_top.Given as goal

-- the files that were passed are not volume top files, so all files obey the rule if the files that are left obey it
abbrev pub invariant-loop-file : goal.invariant-loop-file
invariant-loop-file l = record {
  count : l.left + l.file-index ≡ length l.files;
  rest : (b : List ℕ) → TopAtEnd l.length (drop l.file-index (map (file_form b) l.files)) → TopAtEnd l.length (map (file_form b) l.files);
}
