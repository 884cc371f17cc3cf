-- The notes on the dependency expressions of a volume are put list by list (`puts_then`). The expression of a section
-- is in its leaf, and the expressions of a file are in its sections (`of_section`, `of_file`).
use Rattle.std.proofs.Common.{◌≡◌, ℕ, [], ◌∷◌, ◌++◌, inl, inr, List, refl}
use Rattle.fv_base.proofs.Laws.{option_map, unwrap_or, flat_map, flat_map-append, WalkLaws}
use Rattle.fv_base.specs.declared.guid.Guid.{Guid}
use Rattle.fv_tree.specs.Words.{preorder, FileMeaning, File, Plain, SectionMeaning, Section, Leaf, content_of, file_name_of}
use Rattle.fv_tree.specs.Words.{body_of, leaf_of, section_kind_of, sections_in_data}
use Rattle.fv_lines.specs.Words.{phase_of, read_by, section_depex, file_depexes, HeldDepex, AreNotes, depex_line}
use Rattle.fv_lines.specs.declared.depex_notes.DepexNote.{DepexNote}
use Rattle.fv_lines.specs.inner.LineRuns.{PutsNotes}

-- ---- notes

-- the notes on two lists of expressions, one after the other, are the notes on the joined list
notes_join : (xs ys : List HeldDepex) (ms ns : List DepexNote) → AreNotes xs ms → AreNotes ys ns → AreNotes (xs ++ ys) (ms ++ ns)
notes_join [] ys ms ns p q = rw p q
notes_join (x ∷ xs) ys ms ns (inl (s, p)) q = inl (s, notes_join xs ys ms ns p q)
notes_join (x ∷ xs) ys ms ns (inr (note, rest, is, e, p)) q = inr (note, rest ++ ns, is, rw e, notes_join xs ys rest ns p q)

-- so a sink that took the lines of two lists, one after the other, took the lines of the joined list
pub puts_then : {S : Type 0} {takes : S → List ℕ → S → Type 0} → WalkLaws takes → (xs ys : List HeldDepex) (s t u : S)
    → PutsNotes takes xs s t → PutsNotes takes ys t u → PutsNotes takes (xs ++ ys) s u
puts_then laws xs ys s t u (ms, p, a) (ns, q, b) =
    (ms ++ ns, notes_join xs ys ms ns p q, rw (flat_map-append depex_line ms ns) (laws.joined a b))

-- ---- the expressions of sections and of files

-- the expression of a section is in its leaf; a section without a leaf has none
pub of_section : (name : Guid) (s : SectionMeaning)
    → section_depex name s ≡ unwrap_or (option_map (λ b. read_by name b (phase_of (section_kind_of s))) (leaf_of (body_of s))) []
of_section name (Section kind extended (Leaf b)) = refl
of_section name s = refl

-- the expressions of a file are the expressions of its sections in preorder; plain data have no sections
pub of_file : (f : FileMeaning) → file_depexes f ≡ flat_map (section_depex (file_name_of f)) (preorder (sections_in_data (content_of f)))
of_file (File name kind attributes (Plain b)) = refl
of_file f = refl
