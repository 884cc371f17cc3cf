use Rattle.std.proofs.Common.{◌≡◌, ℕ, [], List, sym, ◌∙◌, append-nil, arith, Bool, true, false}
use Rattle.fv_base.proofs.Laws.{IsTrue, common_steps}
use Rattle.fv_canon.specs.inner.Matching.{MatchLatched}
use Rattle.fv_canon.proofs.canonical_input.is_image.Goals as goal

-- if a difference was found, the bytes are not the expected bytes
match_cut : (s bytes t : List ℕ) (b : Bool) → MatchLatched s true bytes t b → b ≡ false → (IsTrue b → s ≡ bytes) × (s ≡ bytes → IsTrue b)
match_cut s bytes t true taken e = cc
match_cut s bytes t false taken e = (λ h. let never : false ≡ true = h in cc, λ same. absurd (taken [] (same ∙ sym (append-nil bytes))))

pub returns-else-out : goal.returns-else-out
returns-else-out c = grind (arith, common_steps, match_cut) steps 400000

pub returns-then-out : goal.returns-then-out
returns-then-out c = grind (arith, common_steps)
