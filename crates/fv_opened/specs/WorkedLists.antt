-- The packed sections and the budgets of the worked lists, which `src/worked_lists.rt` states.
use Rattle.std.specs.Prelude.{ℕ, List, ◌∷◌, false, Bool}
use Rattle.fv_budget.specs.declared.budget.Budget.{Budget}
use Rattle.fv_open.specs.Words.{empty_section, short_section}
use Rattle.fv_section.specs.Words.{FrameForm}

-- a compression section of this CompressionType with the data b, as a frame. Its UncompressedLength is 9
abbrev pub compression_of : ℕ → List ℕ → FrameForm
compression_of way b = record { offset = 0; kind = 1; extended = false; body = 9 ∷ 0 ∷ 0 ∷ 0 ∷ way ∷ b }

-- a stored compression section, in which is an empty section
abbrev pub stored_section : List ℕ
stored_section = short_section 1 (9 ∷ 0 ∷ 0 ∷ 0 ∷ 0 ∷ empty_section)

-- a budget of n bytes. Memory has run out or not
abbrev pub budget_of : ℕ → Bool → Budget
budget_of n ran_out = record { left = n; ran_out = ran_out }
