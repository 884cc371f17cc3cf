-- The verdict on a file is the fault of the first of its checks that does not hold (`file_verdict`). If this fault is
-- Fixed, the header of the file is right, and the file is fixed (`marked_file`). If the header is right and the file is
-- not fixed, the file checksum decides (`data_wrong`, `data_right`).
use Rattle.std.proofs.Common.{◌≡◌, ◌≢◌, [], ◌∷◌, ◌≤◌, ℕ, ◌+◌, ◌&&◌, ◌||◌, if◌then◌else◌, leb-true, Bool, List}
use Rattle.fv_base.proofs.Laws.{length, true, false, not, refl, ap, arith, nat_le, Ok, Err, Option, Some, check, common_steps, and_split, outer_fault}
use Rattle.fv_base.specs.inner.Verdicts.{first_fault}
use Rattle.fv_base.specs.declared.fault.Fault.{Fault}
use Rattle.fv_base.specs.declared.flash.FileSystem.{FileSystem}
use Rattle.fv_file.specs.Words.{file_header_len_at, has_file_size, has_file_sum, has_header_sum, may_be_large, skips_data, is_fixed, attributes_at}
use Rattle.fv_file.specs.Words.{file_checks, head_in, is_alive}
use Rattle.fv_file.specs.declared.state.FileState.{FileState}
use Rattle.fv_file.specs.inner.CellVerdicts.{file_verdict}
use Rattle.fv_base.specs.declared.fault.FaultKind.TheVariants as kinds

-- if the test of a size holds, the size is in its range, and the rest of the test holds
pub sizes : (low n high : ℕ) (more : Bool) → (nat_le low n && (nat_le n high && more)) ≡ true → (low ≤ n) × (n ≤ high) × (more ≡ true)
sizes low n high more h = grind (arith, common_steps, and_split, leb-true)

-- the checks of the header hold
pub record IsHeaderRight (s : FileSystem) (r : List ℕ) : Type 0 where
  pub form : may_be_large s r ≡ true
  pub whole : nat_le (file_header_len_at r) (length r) ≡ true
  pub sum : has_header_sum r ≡ true
  pub size : has_file_size r ≡ true

module _ (s : FileSystem) (st : FileState) (at : ℕ) (r : List ℕ) where
  module _ (head : IsHeaderRight s r) (checked : skips_data (is_alive st) r ≡ false) (moves : not (is_fixed (attributes_at r)) ≡ true) where
    -- if the file checksum is wrong, the fault is FileSum
    pub data_wrong : has_file_sum r ≡ false → file_verdict s st at r ≡ Err (outer_fault kinds.FileSum (at + 17))
    unfolding file_verdict
    data_wrong payload = rw (head.form, head.whole, head.sum, head.size, checked, moves, payload) refl

    -- if the file checksum is right, the verdict is the header
    pub data_right : has_file_sum r ≡ true → file_verdict s st at r ≡ Ok (head_in st r)
    unfolding file_verdict
    data_right payload = rw (head.form, head.whole, head.sum, head.size, checked, moves, payload) refl

-- ---- the fault Fixed

-- if the first fault of some checks has another kind than the fault of the first check, the first check holds, and the
-- fault is the first fault of the other checks
pub held : (holds : Bool) (fault : Fault) (more : Option Fault) (f : Fault) → (if holds then more else Some fault) ≡ Some f
    → fault.kind ≢ f.kind → (holds ≡ true) × (more ≡ Some f)
held true fault more f is other = (refl, is)
held false fault more f is other = let same : fault ≡ f = cc in absurd (other (ap (λ (g : Fault). g.kind) same))

-- the header is right, the data are checked, the file is fixed, and f is the fault Fixed at its attributes
pub record MarkedFile (s : FileSystem) (st : FileState) (at : ℕ) (r : List ℕ) (f : Fault) : Type 0 where
  pub right : IsHeaderRight s r
  pub checked : skips_data (is_alive st) r ≡ false
  pub fixed : is_fixed (attributes_at r) ≡ true
  pub fault : f ≡ outer_fault kinds.Fixed (at + 19)

-- if the first fault of the checks of a file with these results is Fixed, its header is right, and it is fixed
marked_tests : (form whole sum size skip fixed sound : Bool) (at : ℕ) (f : Fault)
    → first_fault (
    check form kinds.LargeFile (at + 19)
    ∷ check whole kinds.FileSize (at + 20)
    ∷ check sum kinds.FileHeaderSum at
    ∷ check size kinds.FileSize (at + 20)
    ∷ check (skip || not fixed) kinds.Fixed (at + 19)
    ∷ check (skip || sound) kinds.FileSum (at + 17)
    ∷ []
    ) ≡ Some f → f.kind ≡ kinds.Fixed
    → (form ≡ true) × (whole ≡ true) × (sum ≡ true) × (size ≡ true) × (skip ≡ false) × (fixed ≡ true) × (f ≡ outer_fault kinds.Fixed (at + 19))
marked_tests form whole sum size skip fixed sound at f is kind = grind (arith, common_steps)

pub marked_file : (s : FileSystem) (st : FileState) (at : ℕ) (r : List ℕ) (f : Fault) → first_fault (file_checks s (is_alive st) at r) ≡ Some f
    → f.kind ≡ kinds.Fixed → MarkedFile s st at r f
marked_file s st at r f is kind =
    let k = marked_tests (may_be_large s r) (nat_le (file_header_len_at r) (length r)) (has_header_sum r) (has_file_size r)
    (skips_data (is_alive st) r) (is_fixed (attributes_at r)) (has_file_sum r) at f is kind in
    record { right = record { form = k.0; whole = k.1; sum = k.2; size = k.3 }; checked = k.4; fixed = k.5; fault = k.6 }
