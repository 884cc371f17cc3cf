-- The runs of bytes that no structure explains further, in which a survey looks for volumes, and the statement that it
-- passes no volume there.
use Rattle.std.specs.Prelude.{◌≡◌, ℕ, ◌+◌, ◌-◌, ◌≤◌, ◌<◌, Bool, true, false, ◌||◌, if◌then◌else◌, List}
use Rattle.fv_base.specs.Words.{field}
use Rattle.fv_base.specs.declared.fault.FaultKind.TheVariants as faults
use Rattle.fv_survey.specs.declared.row.Row.{Row}
use Rattle.fv_survey.specs.declared.row.RowKind.{RowKind}
use Rattle.fv_survey.specs.declared.row.RowKind.TheVariants as kinds
use Rattle.fv_survey.specs.FindingSets.{has_finding}
use Rattle.fv_survey.specs.Forests.{Forest, Bare, Tree}
use Rattle.fv_survey.specs.Starts.{may_begin}

-- a leaf row of this kind holds bytes that no structure explains further: a survey looks for volumes in them
abbrev pub is_searched : RowKind → Bool
is_searched kinds.Data = true
is_searched kinds.Body = true
is_searched kinds.Packed = true
is_searched kinds.PadData = true
is_searched kinds.Dead = true
is_searched kinds.Between = true
is_searched kinds.Gap = true
is_searched kinds.Store = true
is_searched kinds.Unread = true
is_searched _ = false

-- the row is part of a run: it holds bytes that no structure explains further, or it is a volume that was found among
-- such bytes
abbrev pub in_run : Row → Bool
in_run row = is_searched row.kind || row.found

-- where a run ends that reaches the offset `at`, if these trees come next: at the end of the last of the first trees
-- that are part of a run
abbrev pub run_end : ℕ → Forest → ℕ
run_end at Bare = at
run_end at (Tree row below after) = if in_run row then run_end (row.offset + row.length) after else at

-- the bytes b lie at the offset `base`. No volume may begin at an offset from `from` on and before `to`, in a run that
-- ends at `end`
abbrev pub NoStart : List ℕ → ℕ → ℕ → ℕ → ℕ → Type 0
NoStart b base from to end = (p : ℕ) → from ≤ p → p < to → may_begin (field (p - base) (end - p) b) ≡ false

-- the row is part of a run that ends at `end`. If it holds bytes that no structure explains further, and was not left
-- unread because volumes nest too deep, no volume may begin at any offset in it. If it is a volume that was found, a
-- volume may begin there
abbrev pub Sought : List ℕ → ℕ → ℕ → Row → Type 0
Sought b base end row =
    (is_searched row.kind ≡ true → has_finding faults.Depth row.findings ≡ false
    → NoStart b base row.offset (row.offset + row.length) end)
    × (row.found ≡ true → may_begin (field (row.offset - base) (end - row.offset) b) ≡ true)

-- the bytes b lie at the offset `base`, and the forest passes no volume in them: this is true of each row that is part
-- of a run
abbrev pub PassesNothing : List ℕ → ℕ → Forest → Type 0
PassesNothing b base Bare = Unit {0}
PassesNothing b base (Tree row below after) =
    Sought b base (run_end (row.offset + row.length) after) row × PassesNothing b base below × PassesNothing b base after
