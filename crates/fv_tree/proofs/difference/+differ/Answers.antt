use Rattle.std.proofs.lemmas.Grind.{common_steps}
use Rattle.std.proofs.Common.{sym, ap, ◌∙◌, arith}
use Rattle.fv_tree.specs.Words.{content_view, body_view}
use Rattle.fv_tree.specs.inner.Sizes.{content_size, body_size}
use Rattle.fv_tree.proofs.DifferenceWalkLaws.{files_uneven, volume_word}
use Rattle.fv_tree.proofs.SizeLaws.{section_falls, body_falls, file_falls, content_falls}
use Rattle.fv_tree.proofs.difference.+differ.Goals as goal

-- ---- the parts that are compared are smaller

pub body_difference-stream_difference-requires : goal.body_difference-stream_difference-requires
body_difference-stream_difference-requires t c = (omega (arith, c.decreases, ap (λ b. body_size (body_view b)) c.in-Group-Group.is-0), tt)

pub content_difference-stream_difference-requires : goal.content_difference-stream_difference-requires
content_difference-stream_difference-requires t c = (omega (arith, c.decreases, ap (λ b. content_size (content_view b)) c.in-Stream-Stream.is-0), tt)

pub stream_difference-section_difference-requires : goal.stream_difference-section_difference-requires
stream_difference-section_difference-requires t c = grind (arith, common_steps, section_falls) steps 150000

pub file_difference-content_difference-requires : goal.file_difference-content_difference-requires
file_difference-content_difference-requires t c = (omega (arith, c.decreases, content_falls c.args.file.now, ap content_size c.content.ensures), tt)

pub section_difference-body_difference-requires : goal.section_difference-body_difference-requires
section_difference-body_difference-requires t c = (omega (arith, c.decreases, body_falls c.args.section.now, ap body_size c.body.ensures), tt)

pub files_difference-file_difference-requires : goal.files_difference-file_difference-requires
files_difference-file_difference-requires t c = (omega (arith, c.decreases, file_falls _ c.loop-i.i _ (omega arith) c.index-files-i.is), tt)

-- ---- volumes

pub volume_difference-returns-in-Some : goal.volume_difference-returns-in-Some
volume_difference-returns-in-Some t c =
    c.differ_in.ensures ∙ sym (volume_word c.args.volume.now c.args.other.now _ _ _ _ c.head.ensures.head c.head-2.ensures.head
    c.head_difference_kind.ensures c.in-Some.is)

-- ---- files

pub files_difference-returns-then-not-files-others : goal.files_difference-returns-then-not-files-others
files_difference-returns-then-not-files-others t c = grind (arith, common_steps, files_uneven) steps 150000
