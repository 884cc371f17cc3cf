-- When memory runs out: an input that begins with a volume begins with its header, and a fault is out of memory with its
-- cause, or it has another reason.
use Rattle.std.proofs.Common.{◌≡◌, ◌⊎◌, ◌≤◌, ℕ, List, length, inl, inr}
use Rattle.fv_base.proofs.Laws.{out_of_memory, depth_limit, volume_limit}
use Rattle.fv_base.specs.declared.fault.Fault.{Fault}
use Rattle.fv_flash.specs.Words.{IsPlace}
use Rattle.fv_head.specs.Words.{BeginsWithHeader}
use Rattle.fv_tree.specs.Words.{Meaning, head_of}
use Rattle.fv_tree.proofs.Laws.{front_of}
use Rattle.fv_command.specs.Words.{BeginsWith, MemoryRanOutInImage}

-- an input that begins with a volume begins with the header of that volume
pub begun_header : (b : List ℕ) (m : Meaning) → BeginsWith b m → BeginsWithHeader b
begun_header b m (n, small, accepted) = (head_of m, accepted.1.extent, (front_of depth_limit n b m small accepted.1).0)

-- if memory runs out only for this cause, memory ran out and the cause holds, or there is another reason
pub with_cause : {RanOut Cause Why : Type 0} → RanOut ⊎ Why → (RanOut → Cause) → (RanOut × Cause) ⊎ Why
with_cause (inl ran_out) cause = inl (ran_out, cause ran_out)
with_cause (inr why) cause = inr why

-- the same for an image within the limit in which a volume begins
pub image_cause : {Why : Type 0} (b : List ℕ) (f : Fault) → (f ≡ out_of_memory) ⊎ Why
    → (f ≡ out_of_memory → (length b ≤ volume_limit) × ((place : ℕ) × IsPlace b place))
    → (MemoryRanOutInImage b f × (length b ≤ volume_limit)) ⊎ Why
image_cause b f (inl ran_out) cause = inl ((ran_out, (cause ran_out).1), (cause ran_out).0)
image_cause b f (inr why) cause = inr why
