-- The first fault of a header is within its bytes, and is not OutOfMemory. The steps:
-- 1. A verdict that is a fault is the first fault of the checks (`fault_first`).
-- 2. The first fault is at an offset within the bytes, or at their end (`fault_within`), and is not OutOfMemory
--    (`fault_known`).
-- 3. So a result that is the verdict meets each clause (`ok_found`, `err_first`, `err_within`).
use Rattle.std.proofs.Common.{◌≡◌, ◌≢◌, ◌≤◌, ℕ, [], ◌∷◌, leb-true, rules}
use Rattle.fv_base.proofs.Laws.{List, length, refl, sym, ap, ◌∙◌, arith, true, nat_le, is_some, Option, None, Some, Result, Ok, Err, IfOk, IfErr}
use Rattle.fv_base.proofs.Laws.{AllByRecursion, Check, check, IsFirstFault, outer_fault, IsBytes, all_hold, first_among, first_is}
use Rattle.fv_base.specs.declared.fault.Fault.{Fault}
use Rattle.fv_base.specs.declared.flash.FileSystem.{FileSystem}
use Rattle.fv_base.specs.inner.Verdicts.{first_fault}
use Rattle.fv_head.specs.Words.{HeadFields, BeginsVolume, head_checks, file_system_at}
use Rattle.fv_head.specs.declared.extent.Extent.{Extent}
use Rattle.fv_head.specs.inner.HeadVerdicts.{head_verdict, extent_verdict, extent_or}
use Rattle.fv_head.proofs.HeadCheckLemmas.{checked, fields_of, front_found}
use Rattle.fv_base.specs.declared.fault.FaultKind.TheVariants as kinds

fault_first : (b : List ℕ) (f : Fault) → head_verdict b ≡ Err f → IsFirstFault (head_checks b) f
fault_first b f h = go (first_fault (head_checks b)) refl h where
  go : (o : Option Fault) → first_fault (head_checks b) ≡ o → extent_verdict o b ≡ Err f → IsFirstFault (head_checks b) f
  go (Some g) is k = first_is (head_checks b) f (is ∙ cc)
  go None is k = found (file_system_at b) (checked b (all_hold (head_checks b) is)).file_system k where
    found : (o : Option FileSystem) → is_some o ≡ true → extent_or o (outer_fault kinds.FileSystem 16) b ≡ Err f
        → IsFirstFault (head_checks b) f
    found (Some fs) some k = cc
    found None some k = cc

-- the first fault of a header is within the bytes, or at their end
pub fault_within : (b : List ℕ) (f : Fault) → IsFirstFault (head_checks b) f → f.place.offset ≤ length b
fault_within b f ([], c, after, is, held, fails, fault) =
    let first : c ≡ check (nat_le 56 (length b)) kinds.Truncated (length b) = cc in
    let at : f.place.offset ≡ length b = ap (λ (g : Fault). g.place.offset) fault ∙ ap (λ (d : Check Fault). d.fault.place.offset) first in
    omega (arith, at)
fault_within b f (d ∷ ds, c, after, is, held, fails, fault) =
    let first : d ≡ check (nat_le 56 (length b)) kinds.Truncated (length b) = cc in
    let long : 56 ≤ length b = leb-true _ _ (ap (λ (g : Check Fault). g.holds) (sym first) ∙ held.0) in
    let P : Fault → Type 0 = λ g. g.place.offset ≤ length b in
    let all : AllByRecursion (λ g. P g.fault) (head_checks b) = search rules in
    first_among P (head_checks b) f all (d ∷ ds, c, after, is, held, fails, fault)

-- the first fault of a header is not OutOfMemory
pub fault_known : (b : List ℕ) (f : Fault) → IsFirstFault (head_checks b) f → f.kind ≢ kinds.OutOfMemory
fault_known b f first =
    let P : Fault → Type 0 = λ g. g.kind ≢ kinds.OutOfMemory in
    let all : AllByRecursion (λ g. P g.fault) (head_checks b) =
    (λ e. cc, (λ e. cc, (λ e. cc, (λ e. cc, (λ e. cc, (λ e. cc, (λ e. cc, (λ e. cc, (λ e. cc, (λ e. cc, (λ e. cc, tt))))))))))) in
    first_among P (head_checks b) f all first

-- ---- a result that is the verdict

pub ok_found : (b : List ℕ) (r : Result Extent Fault) → IsBytes b → r ≡ head_verdict b → IfOk r (λ e. (h : HeadFields) × BeginsVolume h e b)
ok_found b (Ok e) small is = let found = front_found b e small (sym is) in (fields_of e.file_system found.0 b, found.1)
ok_found b (Err f) small is = tt

pub err_first : (b : List ℕ) (r : Result Extent Fault) → r ≡ head_verdict b → IfErr r (IsFirstFault (head_checks b))
err_first b (Ok e) is = tt
err_first b (Err f) is = fault_first b f (sym is)

pub err_within : (b : List ℕ) (r : Result Extent Fault) → r ≡ head_verdict b → IfErr r (λ f. f.place.offset ≤ length b)
err_within b (Ok e) is = tt
err_within b (Err f) is = fault_within b f (fault_first b f (sym is))
