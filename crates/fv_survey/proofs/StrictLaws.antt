-- The strict reader accepts a header exactly if all its checks hold.
use Rattle.std.proofs.Common.{◌≡◌, ℕ, List, [], ◌∷◌, ◌++◌, Bool, ◌&&◌, true, false, true≢false, refl, sym, ap, ◌∙◌, Result, Ok, Err, IfOk, IfErr, is_ok, nat_lt, length, leb-true, ◌≤◌}
use Rattle.std.specs.List.{list_all}
use Rattle.fv_base.proofs.Laws.{and_split, Check, AllHold, IsFirstFault}
use Rattle.fv_base.specs.declared.fault.Fault.{Fault}
use Rattle.fv_head.specs.Words.{HeadFields, BeginsVolume, head_checks, has_signature, volume_len_at}
use Rattle.fv_head.specs.declared.extent.Extent.{Extent}
use Rattle.fv_head.proofs.Laws.{front_holds}
use Rattle.fv_survey.specs.Words.{ends_after, is_strict}

all_pass : (cs : List (Check Fault)) → AllHold cs → list_all (λ c. c.holds) cs ≡ true
all_pass [] all = refl
all_pass (c ∷ cs) all = rw all.0 (all_pass cs all.1)

one_fails : (before : List (Check Fault)) (c : Check Fault) (after : List (Check Fault)) → c.holds ≡ false
    → list_all (λ d. d.holds) (before ++ (c ∷ after)) ≡ false
one_fails [] c after fails = rw fails refl
one_fails (d ∷ before) c after fails = go d.holds (one_fails before c after fails) where
  go : (t : Bool) → list_all (λ d. d.holds) (before ++ (c ∷ after)) ≡ false
      → (t && list_all (λ d. d.holds) (before ++ (c ∷ after))) ≡ false
  go true ih = ih
  go false ih = refl

-- the result of the strict reader says whether the header is strict
pub strict_by : (b : List ℕ) (r : Result Extent Fault) → IfOk r (λ e. (h : HeadFields) × BeginsVolume h e b)
    → IfErr r (IsFirstFault (head_checks b)) → is_ok r ≡ is_strict b
unfolding is_strict
strict_by b (Ok e) found first = sym (all_pass (head_checks b) (front_holds b found.0 e found.1))
strict_by b (Err f) found first = sym (go first) where
  go : IsFirstFault (head_checks b) f → list_all (λ c. c.holds) (head_checks b) ≡ false
  go (before, c, after, is, held, fails, fault) =
      ap (λ (cs : List (Check Fault)). list_all (λ d. d.holds) cs) is ∙ one_fails before c after fails

-- a strict header has a signature
pub strict_signed : (b : List ℕ) → is_strict b ≡ true → has_signature b ≡ true
unfolding is_strict
strict_signed b e = (and_split _ _ ((and_split _ _ e).1)).0

-- a strict header has 56 bytes
pub strict_long : (b : List ℕ) → is_strict b ≡ true → 56 ≤ length b
unfolding is_strict
strict_long b e = leb-true 56 (length b) ((and_split _ _ e).0)

-- bytes without a signature do not begin with a volume whose header is strict
pub unsigned_ends : (n : ℕ) (b : List ℕ) → has_signature b ≡ false → ends_after n b ≡ false
unsigned_ends n b none = go (is_strict b) refl where
  go : (t : Bool) → is_strict b ≡ t → (t && nat_lt n (volume_len_at b)) ≡ false
  go true e = absurd (true≢false (sym (strict_signed b e) ∙ none))
  go false e = refl
