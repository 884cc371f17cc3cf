-- What a step of the search says, by its result.
use Rattle.std.proofs.Common.{◌≡◌, ◌≢◌, ◌⊎◌, ◌-◌, ℕ, zero, suc, Bool, true, List, length, Option, Some, None, Ok, Err, Result, inl, inr}
use Rattle.std.proofs.Common.{refl, arith}
use Rattle.std.specs.Prelude.{IsOkAnd}
use Rattle.fv_base.specs.Words.{OrMemory}
use Rattle.fv_base.specs.declared.fault.Fault.{Fault}
use Rattle.fv_base.specs.declared.guid.Guid.{Guid}
use Rattle.fv_budget.specs.Words.{contents_limit, nesting_limit}
use Rattle.fv_open.specs.Words.{head_in, is_decoded, open_out_of_memory, opened_frame}
use Rattle.fv_open.specs.declared.fault.OpenFault.{OpenFault}
use Rattle.fv_open.specs.declared.way.Way.{Way}
use Rattle.fv_plan.specs.declared.plan.Part.{Part}
use Rattle.fv_rows.specs.Words.{TreeRow, tree_rows}
use Rattle.fv_section.specs.Words.{FrameForm}
use Rattle.fv_tree.specs.Words.{HasFrame, Meaning, NotStream}
use Rattle.fv_base.specs.Words.{out_of_memory}
use Rattle.fv_extract.specs.Words.{ContentsOver, EndStops, EndText, InVolume, Nowhere, PackedOver, PackedSearch, SearchEnd, Unread}
use Rattle.fv_extract.specs.Words.{OpenedPartText, RowsSearch, at_start, opened, skipped, unopened}
use Rattle.fv_extract.specs.inner.SearchSteps.{SearchesTo}
use Rattle.fv_extract.specs.declared.opened_search.Request.{Request}
use Rattle.fv_extract.specs.declared.opened_search.Search.{Search}
use Rattle.fv_extract.specs.declared.opened_search.Step.{Step}
use Rattle.fv_extract.specs.declared.opened_search.Step.TheVariants.{Ended, Going}
use Rattle.fv_extract.specs.declared.progress.Progress.{Progress}

-- ---- the end of the search that a step belongs to

same_going : (r : Result Step Fault) (p next : Progress) → r ≡ Ok (Going next) → r ≡ Ok (Going p) → p ≡ next
same_going r p next e f = cc

not_ended : (r : Result Step Fault) (p : Progress) (found : Search) → r ≡ Ok (Ended found) → r ≡ Ok (Going p) → ⊥
not_ended r p found e f = cc

not_stopped : (r : Result Step Fault) (p : Progress) (fault : Fault) → r ≡ Err fault → r ≡ Ok (Going p) → ⊥
not_stopped r p fault e f = cc

-- the search goes on: it has ended nowhere so far, and nothing was put
pub going : {S : Type 0} (takes : S → List ℕ → S → Type 0) (q : Request) (is_end : SearchEnd → Type 0) (s t : S) (next : Progress)
    → SearchesTo takes q is_end s t (Ok (Going next)) → is_end (Nowhere next) × (t ≡ s)
going takes q is_end s t next (Nowhere p, is, puts) = (rw (same_going _ p next refl puts.0) at is, puts.1)
going takes q is_end s t next (InVolume m p, is, puts) = absurd puts

-- the search has ended in a volume, and the text of the part was put
pub ended : {S : Type 0} (takes : S → List ℕ → S → Type 0) (q : Request) (is_end : SearchEnd → Type 0) (s t : S) (found : Search)
    → SearchesTo takes q is_end s t (Ok (Ended found))
    → (m : Meaning) × (p : Progress) × is_end (InVolume m p) × ((text : List ℕ)
    × EndText q.part q.hex (InVolume m p) found text × takes s text t)
ended takes q is_end s t found (Nowhere p, is, puts) = absurd (not_ended _ p found refl puts.0)
ended takes q is_end s t found (InVolume m p, is, puts) = (m, p, is, puts)

-- the same, from a state of the sink that is equal to the first state
pub ended_from : {S : Type 0} (takes : S → List ℕ → S → Type 0) (q : Request) (is_end : SearchEnd → Type 0) (s s₀ t : S) (found : Search)
    → s ≡ s₀ → SearchesTo takes q is_end s t (Ok (Ended found))
    → (m : Meaning) × (p : Progress) × is_end (InVolume m p) × ((text : List ℕ)
    × EndText q.part q.hex (InVolume m p) found text × takes s₀ text t)
ended_from takes q is_end s s₀ t found same step = ended takes q is_end s₀ t found (rw same at step)

-- the text of a search in the rows of a volume
pub ended_text : {S : Type 0} (takes : S → List ℕ → S → Type 0) (part : Part) (hex : Bool) (m : Meaning) (rows : List TreeRow)
    (start : Progress) (s t : S) (found : Search) → rows ≡ tree_rows m → start ≡ at_start
    → SearchesTo takes (record { part = part; hex = hex }) (RowsSearch part.name (PackedSearch part.name nesting_limit) start rows) s t (Ok (Ended found))
    → (text : List ℕ) × OpenedPartText m part hex found text × takes s text t
ended_text takes part hex m rows start s t found is_rows is_start step =
    let (v, p, is, puts) = ended takes (record { part = part; hex = hex }) _ s t found (rw (is_rows, is_start) at step) in
    (puts.0, (InVolume v p, is, puts.1), puts.2)

-- the search has ended in a volume from which the part cannot be extracted, and nothing was put
pub stopped : {S : Type 0} (takes : S → List ℕ → S → Type 0) (q : Request) (is_end : SearchEnd → Type 0) (s t : S) (fault : Fault)
    → SearchesTo takes q is_end s t (Err fault)
    → (m : Meaning) × (p : Progress) × is_end (InVolume m p) × EndStops q.part (InVolume m p) fault × (t ≡ s)
stopped takes q is_end s t fault (Nowhere p, is, puts) = absurd (not_stopped _ p fault refl puts.0)
stopped takes q is_end s t fault (InVolume m p, is, puts) = (m, p, is, puts.0, puts.1)

-- ---- packed sections

-- the contents are not read because of this fault
pub unread_by : (b : List ℕ) (f : Fault) → OrMemory (NotStream b) f → (f ≡ out_of_memory → HasFrame b) → Unread b f
unread_by b f (inl is) has = inl (is, has is)
unread_by b f (inr none) has = inr none

-- a packed section in which one packed section or more may nest
packed_more : (name : Guid) (n : ℕ) (s : Progress) (frame : FrameForm) (end : SearchEnd) (limit : Option ℕ) → n ≢ 0
    → contents_limit s.budget ≡ limit → PackedOver (ContentsOver name (PackedSearch name (n - 1))) limit s frame end
    → PackedSearch name n s frame end
packed_more name zero s frame end limit some is over = absurd (some refl)
packed_more name (suc n) s frame end limit some is over =
    let same : suc n - 1 ≡ n = omega arith in rw is (rw same at over)

-- it may not be opened, it is opened, or it has a fault
pub packed_skipped : (name : Guid) (n : ℕ) (s : Progress) (frame : FrameForm) → n ≢ 0 → contents_limit s.budget ≡ None
    → PackedSearch name n s frame (Nowhere (skipped s))
packed_skipped name n s frame some is = packed_more name n s frame _ None some is refl

pub packed_opened : (name : Guid) (n : ℕ) (s : Progress) (frame : FrameForm) (end : SearchEnd) (limit : ℕ) (o : Way × List ℕ) → n ≢ 0
    → contents_limit s.budget ≡ Some limit → opened_frame limit frame ≡ Ok o
    → ContentsOver name (PackedSearch name (n - 1)) (opened s (length o.1)) o.1 end → PackedSearch name n s frame end
packed_opened name n s frame end limit o some is gives ends = packed_more name n s frame end (Some limit) some is (inl (rw gives ends))

pub packed_faulty : (name : Guid) (n : ℕ) (s : Progress) (frame : FrameForm) (limit : ℕ) (fault : OpenFault) → n ≢ 0
    → contents_limit s.budget ≡ Some limit → (fault ≡ open_out_of_memory) ⊎ (opened_frame limit frame ≡ Err fault)
    → (fault ≡ open_out_of_memory → IsOkAnd (head_in frame) (λ e. is_decoded e.way ≡ true))
    → PackedSearch name n s frame (Nowhere (unopened s fault))
packed_faulty name n s frame limit fault some is (inl memory) decoded =
    packed_more name n s frame _ (Some limit) some is (inr (decoded memory, rw memory refl))
packed_faulty name n s frame limit fault some is (inr gives) decoded =
    packed_more name n s frame _ (Some limit) some is (inl (rw gives refl))
