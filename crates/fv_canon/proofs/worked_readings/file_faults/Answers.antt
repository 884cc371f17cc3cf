use Rattle.std.proofs.Common.{[], ◌∷◌, ◌++◌, List, ℕ, false, inl, inr, drop, refl, take, lit<, lit≤}
use Rattle.fv_base.proofs.Laws.{arith, first_is, outer_fault}
use Rattle.fv_base.specs.Words.{all_are}
use Rattle.fv_base.specs.declared.fault.FaultKind.TheVariants as kinds
use Rattle.fv_file.specs.Words.{state_of}
use Rattle.fv_section.specs.Words.{FrameForm}
use Rattle.fv_tree.specs.Words.{top_name}
use Rattle.fv_canon.specs.Words.{file_bytes, file_header_bytes, nine_groups, volume_with}
use Rattle.fv_canon.proofs.ReadingSteps.{deep_group, extent, file_at, file_rejects, in_group, names_reject, IsReadBy}
use Rattle.fv_canon.proofs.worked_readings.file_faults.Goals as goal

pub returns-clause-duplicate : goal.returns-clause-duplicate
unfolding all_are state_of
returns-clause-duplicate c =
    let b : List ℕ = volume_with (file_header_bytes 0x0a 0x47 0xaa 1 0 24 ++ file_header_bytes 0x0a 0x47 0xaa 1 0 24) in
    let read : IsReadBy 2 (extent 128) b = record { front = record { bytes = refl; checks = refl; file_system = refl; extent_is = refl }; eighths = refl; cells = refl } in
    names_reject 2 (extent 128) b _ _ read (inl (file_at 96 b, (file_at 72 b ∷ [], [], refl, (refl, tt), refl), refl))

pub returns-clause-top : goal.returns-clause-top
unfolding all_are state_of
returns-clause-top c =
    let b : List ℕ = volume_with (file_bytes top_name 0xf2 0xaa 1 0 24 0xf8) in
    let read : IsReadBy 1 (extent 128) b = record { front = record { bytes = refl; checks = refl; file_system = refl; extent_is = refl }; eighths = refl; cells = refl } in
    names_reject 1 (extent 128) b _ _ read
    (inr ((refl, tt), file_at 72 b, ([], [], refl, refl, λ last ends. omega (arith, ends)), refl))

pub returns-clause-section_size : goal.returns-clause-section_size
unfolding all_are state_of
returns-clause-section_size c =
    let b : List ℕ = volume_with (file_header_bytes 0x0a 0x42 0xaa 2 0 28 ++ (3 ∷ 0 ∷ 0 ∷ 0x19 ∷ [])) in
    let read : IsReadBy 1 (extent 128) b = record { front = record { bytes = refl; checks = refl; file_system = refl; extent_is = refl }; eighths = refl; cells = refl } in
    file_rejects 1 (extent 128) b _ (file_at 72 b) read ((refl, tt), λ top. cc) refl refl (inl (
      outer_fault kinds.SectionSize 0,
      record {
        frames = [];
        tail = 0;
        at = 0;
        split = (refl, refl);
        multiple = refl;
        inside = lit< tt;
        fails = first_is _ _ refl;
      },
      refl,
    ))

pub returns-clause-section_tail : goal.returns-clause-section_tail
unfolding all_are state_of
returns-clause-section_tail c =
    let b : List ℕ = volume_with (file_header_bytes 0x0a 0x40 0xaa 2 0 30 ++ (4 ∷ 0 ∷ 0 ∷ 0x19 ∷ 0 ∷ 0 ∷ [])) in
    let read : IsReadBy 1 (extent 128) b = record { front = record { bytes = refl; checks = refl; file_system = refl; extent_is = refl }; eighths = refl; cells = refl } in
    let f : FrameForm = record { offset = 0; kind = 0x19; extended = false; body = [] } in
    file_rejects 1 (extent 128) b _ (file_at 72 b) read ((refl, tt), λ top. cc) refl refl (inl (
      outer_fault kinds.SectionTail 4,
      record {
        frames = f ∷ [];
        tail = 0;
        at = 4;
        split = (
          [],
          record {
            head = 4 ∷ 0 ∷ 0 ∷ 0x19 ∷ [];
            is_header = record { header_length = refl; kind_is = refl; states = (refl, λ long. omega (arith, long)) };
            text = refl;
          },
          refl,
          refl,
          lit≤ tt,
        );
        multiple = refl;
        inside = lit< tt;
        fails = first_is _ _ refl;
      },
      refl,
    ))

pub returns-clause-depth : goal.returns-clause-depth
unfolding all_are state_of
returns-clause-depth c =
    let b : List ℕ = nine_groups in
    let read : IsReadBy 1 (extent 136) b = record { front = record { bytes = refl; checks = refl; file_system = refl; extent_is = refl }; eighths = refl; cells = refl } in
    let p : List ℕ = take 36 (drop 96 b) in
    file_rejects 1 (extent 136) b _ (file_at 72 b) read ((refl, tt), λ top. cc) refl refl
    (in_group 7 _ _ (drop 4 p) _ refl refl (in_group 6 _ _ (drop 8 p) _ refl refl (in_group 5 _ _ (drop 12 p) _ refl refl
    (in_group 4 _ _ (drop 16 p) _ refl refl (in_group 3 _ _ (drop 20 p) _ refl refl (in_group 2 _ _ (drop 24 p) _ refl refl
    (in_group 1 _ _ (drop 28 p) _ refl refl (in_group 0 _ _ (drop 32 p) _ refl refl (deep_group _ [] _ refl refl)))))))))
