-- Facts for the loops over the files of a volume: the files of the first cells, and the volume top file.
use Rattle.std.proofs.lemmas.Grind.{common_steps}
use Rattle.std.proofs.Common.{arith, ◌≡◌, ◌==◌, ◌&&◌, ◌||◌, not, ℕ, List, [], ◌∷◌, ◌++◌, Bool, true, false, refl, ap, eqb-true}
use Rattle.fv_file.specs.Words.{CellForm, Valid}
use Rattle.fv_tree.specs.Words.{FileForm, files_in, is_top, end_of, TopAtEnd}

-- ---- the files of one more cell

pub files_in_more : (cs : List CellForm) (c : CellForm) → files_in (cs ++ c ∷ []) ≡ files_in cs ++ files_in (c ∷ [])
files_in_more [] c = refl
files_in_more (Valid at head payload ∷ cs) c = ap (λ fs. record { offset = at; head = head; payload = payload } ∷ fs) (files_in_more cs c)
files_in_more (_ ∷ cs) c = files_in_more cs c

-- ---- the volume top file

-- if the test of a file's place succeeds for a volume top file, the file is the last one and ends at the end
pub placed : (top last ends : Bool) → (not top || (last && ends)) ≡ true → top ≡ true → (last ≡ true) × (ends ≡ true)
placed top last ends p h = grind (arith, common_steps)

-- if the test fails, the file is a volume top file that is not the last file or does not end at the end
pub misplaced : (top last ends : Bool) → (not top || (last && ends)) ≡ false → (top ≡ true) × (last ≡ true → ends ≡ true → ⊥)
misplaced top last ends p = grind (arith, common_steps) steps 150000

-- so `TopAtEnd` is true of f and the files after f, if the test succeeds for f and `TopAtEnd` is true of the files
-- after f
pub top_more : (n : ℕ) (f : FileForm) (fs : List FileForm) (last : Bool) → (last ≡ true → fs ≡ [])
    → (not (is_top f) || (last && (end_of f == n))) ≡ true → TopAtEnd n fs → TopAtEnd n (f ∷ fs)
top_more n f fs last none good more = grind (arith, common_steps, eqb-true, placed) steps 150000
