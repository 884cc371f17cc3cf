-- The last of the files of a volume, and its volume top files.
use Rattle.std.specs.Prelude.{◌≡◌, ◌&&◌, not, Bool, true, List, [], ◌∷◌}
use Rattle.fv_survey.specs.declared.names.BodyFile.{BodyFile}
use Rattle.fv_survey.specs.NameRules.{is_top}

-- a file that ends where the volume ends is the last of the files
abbrev pub EndIsLast : List BodyFile → Type 0
EndIsLast [] = Unit {0}
EndIsLast (f ∷ fs) = (f.is_at_end ≡ true → fs ≡ []) × EndIsLast fs

-- the file is a volume top file that is not marked for update
abbrev pub is_unmarked_top : BodyFile → Bool
is_unmarked_top f = is_top f && not f.is_marked

-- the file is a volume top file that does not end where the volume ends, and is not superseded. `update` says whether
-- there is a volume top file that is not marked
abbrev pub is_early_top : Bool → BodyFile → Bool
is_early_top update f = is_top f && not f.is_at_end && not (f.is_marked && update)
