-- The table is compared with the definition at each of the 256 bytes, by computation.
use Rattle.std.proofs.Common.{◌≡◌, ℕ, ◌<◌, if◌then◌else◌, Bool, true, nat_eq, get_or, List, refl, ap, ◌∙◌, arith, eqb-true}
use Rattle.std.proofs.lemmas.Bool.{agree_below, agree_below_at}
use Rattle.fv_text.specs.Words.{is_space}
use Rattle.fv_text.specs.declared.white_space.TheConstants.{KEPT}
use Rattle.fv_text.proofs.white_space.kept.Goals as goal

abbrev counts : List ℕ → ℕ → Bool
counts table b = nat_eq (get_or table b 0) (if is_space b then 0 else 1)

from_table : (table : List ℕ) (b : ℕ) → b < 256 → agree_below (counts table) (λ _. true) 256 ≡ true
    → get_or table b 0 ≡ (if is_space b then 0 else 1)
from_table table b lt all = eqb-true _ _ (agree_below_at (counts table) (λ _. true) 256 b all lt)

pub returns : goal.returns
returns c = c.from-2.ensures ∙ ap (λ (n : ℕ). get_or KEPT n 0) c.from.ensures ∙ from_table KEPT c.args.byte (omega arith) refl
