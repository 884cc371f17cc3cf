-- The text of a packed section in which at least one packed section may nest, and of the line of a packed section.
use Rattle.std.proofs.Common.{◌≡◌, ◌≢◌, ◌⊎◌, ◌-◌, ◌++◌, ℕ, zero, suc, List, length, Option, Some, Ok, Err, true, inl, inr, refl, sym, ap, subst, arith}
use Rattle.std.specs.Prelude.{IsOkAnd}
use Rattle.fv_budget.specs.Words.{after_fault, after_opening, contents_limit, packed_frame}
use Rattle.fv_budget.specs.declared.budget.Budget.{Budget}
use Rattle.fv_lines.specs.Words.{section_start}
use Rattle.fv_open.specs.Words.{head_in, is_decoded, open_out_of_memory, opened_frame}
use Rattle.fv_open.specs.declared.fault.OpenFault.{OpenFault}
use Rattle.fv_open.specs.declared.way.Way.{Way}
use Rattle.fv_rows.specs.Words.{SectionNode}
use Rattle.fv_section.specs.Words.{FrameForm}
use Rattle.fv_tree.specs.Words.{SectionMeaning}
use Rattle.fv_opened.specs.Words.{ContentsOver, PackedOver, PackedRelation, PackedText, PartText, opened_text, unopened_text}

pub packed_is : (n depth : ℕ) (s : Budget) (limit : Option ℕ) (frame : FrameForm) (text : List ℕ) (t : Budget) → n ≢ 0
    → limit ≡ contents_limit s → PackedOver (ContentsOver (PackedText (n - 1))) limit depth s frame text t
    → PackedText n depth s frame text t
packed_is zero depth s limit frame text t some is over = absurd (some refl)
packed_is (suc n) depth s limit frame text t some is over =
    let same : suc n - 1 ≡ n = omega arith in
    subst (λ k. PackedOver (ContentsOver (PackedText k)) (contents_limit s) depth s frame text t) same
    (subst (λ l. PackedOver (ContentsOver (PackedText (suc n - 1))) l depth s frame text t) is over)

-- the section is opened, and this is the text of its contents
pub opened_is : (n depth limit : ℕ) (s t : Budget) (frame : FrameForm) (way : Way) (bytes more : List ℕ) → n ≢ 0
    → contents_limit s ≡ Some limit → opened_frame limit frame ≡ Ok (way, bytes)
    → ContentsOver (PackedText (n - 1)) depth (after_opening s (length bytes)) bytes more t
    → PackedText n depth s frame (opened_text way (length bytes) ++ more) t
opened_is n depth limit s t frame way bytes more some is found contents =
    packed_is n depth s (Some limit) frame (opened_text way (length bytes) ++ more) t some (sym is)
    (inl (rw found (more, contents, refl)))

-- the section is not opened because of this fault
pub unopened_is : (n depth limit : ℕ) (s : Budget) (frame : FrameForm) (fault : OpenFault) → n ≢ 0 → contents_limit s ≡ Some limit
    → (fault ≡ open_out_of_memory) ⊎ (opened_frame limit frame ≡ Err fault)
    → (fault ≡ open_out_of_memory → IsOkAnd (head_in frame) (λ e. is_decoded e.way ≡ true))
    → PackedText n depth s frame (unopened_text fault) (after_fault s fault)
unopened_is n depth limit s frame fault some is (inl memory) decoded =
    packed_is n depth s (Some limit) frame (unopened_text fault) (after_fault s fault) some (sym is)
    (inr (decoded memory, (ap unopened_text memory, ap (after_fault s) memory)))
unopened_is n depth limit s frame fault some is (inr found) decoded =
    packed_is n depth s (Some limit) frame (unopened_text fault) (after_fault s fault) some (sym is)
    (inl (rw found (refl, refl)))

-- the line of a packed section, with the text after its start
pub part_is : (P : PackedRelation) (depth number : ℕ) (s t : Budget) (section : SectionMeaning) (frame : FrameForm) (more : List ℕ)
    → packed_frame section ≡ Some frame → P depth s frame more t
    → PartText P depth s number (SectionNode section) (section_start depth number section ++ more) t
part_is P depth number s t section frame more is packed = rw is (more, packed, refl)
