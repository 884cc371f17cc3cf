use Rattle.std.proofs.Common.{◌≡◌, ℕ, List, Some, refl, ◌⊎◌, inl, inr}
use Rattle.fv_base.proofs.Laws.{err_is, out_of_memory}
use Rattle.fv_tree.specs.Words.{section_of_type, Plain, Sectioned, SectionMeaning, SectionMeanings, content_of, volumes_in_body}
use Rattle.fv_tree.specs.Words.{FileMeaning, ContentMeaning, body_of}
use Rattle.fv_extract.specs.Words.{IsLaidOut, StopsPart}
use Rattle.fv_base.specs.declared.fault.Fault.{Fault}
use Rattle.fv_canon.specs.Words.{FirstUnplaced}
use Rattle.fv_extract.proofs.extracting.file_part.Goals as goal

-- if the section was found in a file, the data of the file are a stream that has it
in_stream : (f : FileMeaning) (kind instance : ℕ) (s : SectionMeaning)
    → ((ss : SectionMeanings) (t : ℕ) → content_of f ≡ Sectioned ss t → section_of_type kind instance ss ≡ Some s)
    → ((b : List ℕ) → content_of f ≡ Plain b → ⊥)
    → (ss : SectionMeanings) × (t : ℕ) × (content_of f ≡ Sectioned ss t) × (section_of_type kind instance ss ≡ Some s)
in_stream f kind instance s found none = go (content_of f) refl where
  go : (x : ContentMeaning) → content_of f ≡ x
      → (ss : SectionMeanings) × (t : ℕ) × (content_of f ≡ Sectioned ss t) × (section_of_type kind instance ss ≡ Some s)
  go (Plain b) p = absurd (none b p)
  go (Sectioned ss t) p = (ss, t, p, found ss t p)

-- then the fault of its layout stops the extraction, and its body is laid out
stops_section : (f : FileMeaning) (kind instance : ℕ) (s : SectionMeaning) (e : Fault)
    → ((ss : SectionMeanings) (t : ℕ) → content_of f ≡ Sectioned ss t → section_of_type kind instance ss ≡ Some s)
    → ((b : List ℕ) → content_of f ≡ Plain b → ⊥) → (e ≡ out_of_memory) ⊎ FirstUnplaced (volumes_in_body (body_of s)) 0 e
    → (e ≡ out_of_memory) ⊎ StopsPart (Some f) (Some kind) instance e
stops_section f kind instance s e found none (inl w) = inl w
stops_section f kind instance s e found none (inr u) =
    let (ss, t, is, has) = in_stream f kind instance s found none in inr (ss, t, s, is, has, u)

laid_out : (f : FileMeaning) (kind instance : ℕ) (s : SectionMeaning)
    → ((ss : SectionMeanings) (t : ℕ) → content_of f ≡ Sectioned ss t → section_of_type kind instance ss ≡ Some s)
    → ((b : List ℕ) → content_of f ≡ Plain b → ⊥) → IsLaidOut (Some f) (Some kind) instance
laid_out f kind instance s found none =
    let (ss, t, is, has) = in_stream f kind instance s found none in (ss, t, s, is, has)

pub returns-in_ok-body_bytes-in-Found-Section-clause-ok : goal.returns-in_ok-body_bytes-in-Found-Section-clause-ok
returns-in_ok-body_bytes-in-Found-Section-clause-ok c =
    let w = c.in-Found-Section.ensures in
    let item = c.in-Found-Section.field-0-is in
    rw c.in-Some.is (record {
      sections = λ ss t e. let found = rw item at (w.sections ss t e) in rw found c.in_ok-body_bytes-in-Found-Section.ensures.body;
      core = λ b fs t e k h. absurd (rw item at (w.core b fs t e k h));
      plain = λ b e n. cc (w.plain b e n);
    })

pub returns-in-Found-Frame-clause-ok : goal.returns-in-Found-Frame-clause-ok
returns-in-Found-Frame-clause-ok c =
    let w = c.in-Found-Frame.ensures in
    let item = c.in-Found-Frame.field-0-is in
    rw c.in-Some.is (record {
      sections = λ ss t e. absurd (rw item at (w.sections ss t e));
      core = λ b fs t e k h. let found = rw item at (w.core b fs t e k h) in rw found refl;
      plain = λ b e n. cc (w.plain b e n);
    })

pub returns-in_err-body_bytes-in-Found-Section-clause-err : goal.returns-in_err-body_bytes-in-Found-Section-clause-err
returns-in_err-body_bytes-in-Found-Section-clause-err c =
    let residual = c.from_residual-in_err-body_bytes-in-Found-Section in
    let w = c.in-Found-Section.ensures in
    let item = c.in-Found-Section.field-0-is in
    rw (c.in-Some.is, err_is residual.ensures.1) (stops_section c.args.file.now c.in-Some.kind c.args.part.now.instance c.in-Found-Section.section _
    (λ ss t e. rw item at (w.sections ss t e)) (λ b e. cc (w.plain b e (λ k fs t h. absurd (rw item at (w.core b fs t e k h)))))
    c.in_err-body_bytes-in-Found-Section.ensures.err)

pub returns-in_err-body_bytes-in-Found-Section-clause-memory : goal.returns-in_err-body_bytes-in-Found-Section-clause-memory
returns-in_err-body_bytes-in-Found-Section-clause-memory c =
    let residual = c.from_residual-in_err-body_bytes-in-Found-Section in
    let w = c.in-Found-Section.ensures in
    let item = c.in-Found-Section.field-0-is in
    rw (c.in-Some.is, err_is residual.ensures.1) (λ is. laid_out c.args.file.now c.in-Some.kind c.args.part.now.instance c.in-Found-Section.section
    (λ ss t e. rw item at (w.sections ss t e)) (λ b e. cc (w.plain b e (λ k fs t h. absurd (rw item at (w.core b fs t e k h))))))
