-- How a sink takes bytes for a digest.
use Rattle.std.specs.Prelude.{ℕ, List, ◌++◌}
use Rattle.sha2.specs.Hashers.{Holds256}
use Rattle.sha2.specs.declared.Sha256.{Sha256}
use Rattle.fv_sinks.specs.declared.digest_sink.DigestSink.{DigestSink}

-- the message is all the bytes that the sink has taken, joined
abbrev pub HasTaken : DigestSink → List ℕ → Type 0
HasTaken s message = Holds256 s.hasher message

-- whatever message the hasher held before, it then holds that message followed by the bytes
abbrev pub DigestTakes : {S : Type 0} (hasher : S → Sha256) → S → List ℕ → S → Type 0
DigestTakes hasher s bytes t = (message : List ℕ) → Holds256 (hasher s) message → Holds256 (hasher t) (message ++ bytes)
