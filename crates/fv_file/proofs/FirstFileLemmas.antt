-- The bytes begin with a file exactly if one is read. The verdict on the bytes is the verdict of their checks. If all
-- checks hold, the header at the start is the header of a file (`begins_found`). If a file begins the bytes, all checks
-- hold, and the verdict is the header of this file (`begins_only`). So the bytes begin with a file, or have a first fault
-- (`file_decided`), and never both (`file_never`).
use Rattle.std.proofs.Common.{◌≡◌, ℕ, ◌++◌, ◌==◌, ◌⊎◌, leb-true, List, length, take, drop}
use Rattle.fv_base.proofs.Laws.{inl, inr, refl, sym, subst, Bool, true, false, nat_le, slice_index, Option, None, Some, Result, Ok, Err, IfOk, IfErr}
use Rattle.fv_base.proofs.Laws.{le-leb, eqb-true, take-append-drop, AllHold, IsFirstFault, all_hold, first_is, none_faulty, not_first, verdict_err, verdict_ok}
use Rattle.fv_base.specs.inner.Verdicts.{first_fault}
use Rattle.fv_base.specs.declared.fault.Fault.{Fault}
use Rattle.fv_base.specs.declared.flash.FileSystem.{FileSystem}
use Rattle.fv_base.specs.declared.flash.Polarity.{Polarity}
use Rattle.fv_file.specs.Words.{file_size_at, payload_at, file_checks, is_valid_state, verify_checks, pad_kind, head_in, IsSound, BeginsFile}
use Rattle.fv_file.specs.Words.{state_of, is_alive}
use Rattle.fv_file.specs.declared.head.FileHead.{FileHead}
use Rattle.fv_file.specs.declared.state.FileState.{FileState}
use Rattle.fv_file.specs.inner.CellVerdicts.{file_verdict, shown_head, verify_verdict}
use Rattle.fv_file.proofs.FileLemmas.{FileAt, file_at, file_reads}

-- for bytes that show the state of a valid file, the verdict is the verdict on a file
pub alive_read : (s : FileSystem) (p : Polarity) (b : List ℕ) (st : FileState) → nat_le 24 (length b) ≡ true
    → state_of p (slice_index b 23) ≡ Some st → is_alive st ≡ true → verify_verdict s p b ≡ file_verdict s st 0 b
unfolding file_verdict
alive_read s p b st long is alive = rw (long, is, alive)

-- ---- from the checks to the file and back

begins_at : (s : FileSystem) (p : Polarity) (st : FileState) (b : List ℕ) → is_alive st ≡ true → FileAt s p st b
    → BeginsFile s p (head_in st b) b
begins_at s p st b alive f = record {
  file = take (file_size_at b) b;
  payload = payload_at b;
  rest = drop (file_size_at b) b;
  text = sym (take-append-drop (file_size_at b) b);
  is_file = f.is_file;
  alive = alive;
  content = content (slice_index b 18 == pad_kind) refl;
}
  where
    content : (t : Bool) → (slice_index b 18 == pad_kind) ≡ t → (slice_index b 18 ≡ pad_kind) ⊎ IsSound (head_in st b) (payload_at b)
    content true e = inl (eqb-true _ _ e)
    content false e = inr (f.sound alive e)

-- if the checks hold, the bytes begin with the file whose header is at the start
begins_found : (s : FileSystem) (p : Polarity) (b : List ℕ) → AllHold (verify_checks s p b)
    → BeginsFile s p (shown_head (state_of p (slice_index b 23)) b) b
begins_found s p b (long, (standing, checks)) = go (state_of p (slice_index b 23)) refl standing where
  go : (o : Option FileState) → state_of p (slice_index b 23) ≡ o → is_valid_state o ≡ true → BeginsFile s p (shown_head o b) b
  go None e alive = cc
  go (Some st) e alive = begins_at s p st b alive (file_at s p st 0 b (leb-true _ _ long) e
      (subst (λ (t : Bool). AllHold (file_checks s t 0 b)) (sym alive) checks))

-- if a file begins the bytes, all checks hold
begins_holds : (s : FileSystem) (p : Polarity) (b : List ℕ) (head : FileHead) → BeginsFile s p head b → AllHold (verify_checks s p b)
begins_holds s p b head begins =
    let r : List ℕ = begins.file ++ begins.rest in
    let reads = file_reads s p head begins.payload begins.file begins.rest begins.is_file in
    let state : state_of p (slice_index r 23) ≡ Some head.state = reads.state in
    let checks : AllHold (file_checks s true 0 r) = rw begins.alive at (reads.checks 0 (λ alive. begins.content)) in
    rw (begins.text, state) (le-leb 24 (length r) reads.long, (begins.alive, checks))

-- if a file begins the bytes, the verdict is its header
pub begins_only : (s : FileSystem) (p : Polarity) (b : List ℕ) (head : FileHead) → BeginsFile s p head b → verify_verdict s p b ≡ Ok head
begins_only s p b head begins =
    let r : List ℕ = begins.file ++ begins.rest in
    let reads = file_reads s p head begins.payload begins.file begins.rest begins.is_file in
    let state : state_of p (slice_index r 23) ≡ Some head.state = reads.state in
    let checks : AllHold (file_checks s true 0 r) = rw begins.alive at (reads.checks 0 (λ alive. begins.content)) in
    rw (begins.text, le-leb 24 (length r) reads.long, state, begins.alive, none_faulty (file_checks s true 0 r) checks, reads.fields)

-- ---- the result of the call

pub ok_found : (s : FileSystem) (p : Polarity) (b : List ℕ) (r : Result FileHead Fault) → r ≡ verify_verdict s p b
    → IfOk r (λ head. BeginsFile s p head b)
ok_found s p b (Ok head) is =
    let v = verdict_ok (first_fault (verify_checks s p b)) (shown_head (state_of p (slice_index b 23)) b) head (sym is) in
    subst (λ (h : FileHead). BeginsFile s p h b) v.1 (begins_found s p b (all_hold (verify_checks s p b) v.0))
ok_found s p b (Err f) is = tt

pub err_first : (s : FileSystem) (p : Polarity) (b : List ℕ) (r : Result FileHead Fault) → r ≡ verify_verdict s p b
    → IfErr r (IsFirstFault (verify_checks s p b))
err_first s p b (Ok head) is = tt
err_first s p b (Err f) is = first_is (verify_checks s p b) f (verdict_err (first_fault (verify_checks s p b)) _ f (sym is))

-- ---- a file or a first fault

pub file_decided : (s : FileSystem) (p : Polarity) (b : List ℕ)
    → ((head : FileHead) × BeginsFile s p head b) ⊎ ((f : Fault) × IsFirstFault (verify_checks s p b) f)
file_decided s p b = go (verify_verdict s p b) refl where
  go : (r : Result FileHead Fault) → verify_verdict s p b ≡ r
      → ((head : FileHead) × BeginsFile s p head b) ⊎ ((f : Fault) × IsFirstFault (verify_checks s p b) f)
  go (Ok head) is = inl (head, ok_found s p b (Ok head) (sym is))
  go (Err f) is = inr (f, err_first s p b (Err f) (sym is))

pub file_never : (s : FileSystem) (p : Polarity) (b : List ℕ) (head : FileHead) (f : Fault) → BeginsFile s p head b
    → IsFirstFault (verify_checks s p b) f → ⊥
file_never s p b head f begins first = not_first (verify_checks s p b) f first (none_faulty (verify_checks s p b) (begins_holds s p b head begins))
