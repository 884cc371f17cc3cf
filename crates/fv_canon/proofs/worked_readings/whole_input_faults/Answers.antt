use Rattle.std.proofs.Common.{[], ◌∷◌, ◌++◌, List, ℕ, None, Some, inl, inr, refl, drop, take, lit<, lit≤}
use Rattle.fv_base.proofs.Laws.{arith}
use Rattle.fv_base.specs.Words.{all_are}
use Rattle.fv_file.specs.Words.{state_of}
use Rattle.fv_head.specs.Words.{Extension, extent_of}
use Rattle.fv_tree.specs.Words.{Accepted, File, FileMeanings, MoreFiles, NoFiles, Plain, Volume, top_name}
use Rattle.fv_tree.proofs.Laws.{end_refused, one_beginning}
use Rattle.fv_canon.specs.Words.{empty_volume, head, misaligned_top, no_room_for_pad}
use Rattle.fv_canon.proofs.ReadingSteps.{accepts, empty_read, extent, guid, IsHeadOf, IsReadBy}
use Rattle.fv_canon.proofs.worked_readings.whole_input_faults.Goals as goal

pub returns-clause-length : goal.returns-clause-length
returns-clause-length c =
    let b : List ℕ = empty_volume ++ (0xff ∷ []) in
    inl (end_refused b _ _ 128 empty_read (refl, lit≤ tt) refl refl (λ k m within means. one_beginning 8 k 128 b m _ within means (lit≤ tt) empty_read.1))

pub returns-clause-no_room : goal.returns-clause-no_room
unfolding all_are
returns-clause-no_room c =
    let b : List ℕ = no_room_for_pad in
    let x : Extension = record { name = guid 0x0e; entries = []; tail = [] } in
    let read : IsReadBy 0 (extent_of (head 104 (Some x)) 96) b = record { front = record { bytes = refl; checks = refl; file_system = refl; extent_is = refl }; eighths = refl; cells = refl } in
    let fields : IsHeadOf 104 b =
    record { zero_vector = refl; file_system = refl; volume_length = refl; attributes = refl; reserved = refl; block_map = refl } in
    let accepted : Accepted b (Volume (head 104 (Some x)) NoFiles) =
    accepts 0 104 96 (Some x) NoFiles b read fields (
      take 72 b,
      take 20 (drop 72 b),
      drop 92 b,
      refl,
      refl,
      lit≤ tt,
      lit≤ tt,
      record {
        head = 0x14 ∷ 0 ∷ 0 ∷ 0 ∷ [];
        rest = [];
        text = refl;
        name_length = refl;
        head_length = refl;
        size = refl;
        most = lit≤ tt;
        entries = (refl, inl (lit< tt));
      },
      refl,
    ) refl (tt, tt) tt in
    inr (_, accepted, inl (inr (record { top_is_aligned = λ none. none; none = λ starts p. omega (arith, p.room) }, refl)))

pub returns-clause-top_alignment : goal.returns-clause-top_alignment
unfolding all_are state_of
returns-clause-top_alignment c =
    let b : List ℕ = misaligned_top in
    let files : FileMeanings = MoreFiles (File (guid 0x0a) 1 0 (Plain [])) (MoreFiles (File (guid 0x0b) 1 8 (Plain []))
    (MoreFiles (File (record { bytes = top_name }) 1 8 (Plain (0 ∷ 0 ∷ 0 ∷ 0 ∷ 0 ∷ 0 ∷ 0 ∷ 0 ∷ []))) NoFiles)) in
    let read : IsReadBy 4 (extent 176) b = record { front = record { bytes = refl; checks = refl; file_system = refl; extent_is = refl }; eighths = refl; cells = refl } in
    let fields : IsHeadOf 176 b =
    record { zero_vector = refl; file_system = refl; volume_length = refl; attributes = refl; reserved = refl; block_map = refl } in
    let accepted : Accepted b (Volume (head 176 None) files) =
    accepts 4 176 72 None files b read fields (refl, refl) refl ((refl, (refl, (refl, tt))), (refl, (refl, λ top. refl)))
    ((refl, refl, refl, (refl, refl)), ((refl, refl, refl, (refl, refl)), ((refl, refl, refl, (refl, refl)), tt))) in
    inr (_, accepted, inl (inl (inr (inr (inl (refl, inl (λ aligned. omega (arith, aligned))))), refl)))
