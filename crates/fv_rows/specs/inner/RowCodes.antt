-- A row as a tree of numbers. Different rows have different trees. These are proofs, which are in specs/ because ghost
-- members cite them.
use Rattle.std.specs.Prelude.{◌≡◌, ◌⊎◌, ℕ, refl}
use Rattle.std.proofs.Common.{inl, inr}
use Rattle.std.specs.Coded.{Coded, code_by, coded×, coded⊎, coded_ℕ}
use Rattle.fv_tree.specs.Words.{Meaning, FileMeaning, SectionMeaning}
use Rattle.fv_tree.specs.inner.Codes.{volume_code, file_code, section_code}
use Rattle.fv_rows.specs.TreeRows.{NodeMeaning, VolumeNode, FileNode, SectionNode, TreeRow}

abbrev pub node_to : NodeMeaning → Meaning ⊎ (FileMeaning ⊎ SectionMeaning)
node_to (VolumeNode v) = inl v
node_to (FileNode f) = inr (inl f)
node_to (SectionNode s) = inr (inr s)

abbrev pub node_by : Meaning ⊎ (FileMeaning ⊎ SectionMeaning) → NodeMeaning
node_by (inl v) = VolumeNode v
node_by (inr (inl f)) = FileNode f
node_by (inr (inr s)) = SectionNode s

pub node_back : (node : NodeMeaning) → node_by (node_to node) ≡ node
node_back (VolumeNode v) = refl
node_back (FileNode f) = refl
node_back (SectionNode s) = refl

abbrev pub node_code : Coded NodeMeaning
node_code =
    code_by (Meaning ⊎ (FileMeaning ⊎ SectionMeaning)) (coded⊎ volume_code (coded⊎ file_code section_code))
    node_to node_by node_back

abbrev pub row_code : Coded TreeRow
row_code =
    code_by (ℕ × (ℕ × (ℕ × NodeMeaning))) (coded× coded_ℕ (coded× coded_ℕ (coded× coded_ℕ node_code)))
    (λ r. (r.depth, (r.nesting, (r.number, r.node))))
    (λ p. record { depth = p.0; nesting = p.1.0; number = p.1.1.0; node = p.1.1.1 }) (λ _. refl)
