-- Sinks take bytes, part after part. Here are the laws of all sinks, the sink that keeps bytes in memory, and the sink
-- that writes to a borrowed port, with the bytes that the port holds and the number of bytes that it took.
use Rattle.std.specs.Prelude.{◌≡◌, ℕ, List, [], ◌++◌, Bool, true, false, ◌+◌, ◌%◌, ◌^◌, ◌<◌, length, take, Option}
use Rattle.fv_base.specs.declared.sink.ListSink.{ListSink}
use Rattle.std.specs.Borrow.{GName}
use Rattle.std.specs.Io.KnownBytes.{Appends}
use Rattle.fv_base.specs.declared.port.Port.{Port}
use Rattle.fv_base.specs.declared.sink.WriteSink.{WriteSink}

-- the laws of a sink, where `takes s bytes t` says that taking the bytes turns the state s into the state t: taking no
-- bytes changes nothing, and bytes may be taken in parts
pub record WalkLaws {S : Type 0} (takes : S → List ℕ → S → Type 0) : Type 0 where
  pub none : (s : S) → takes s [] s
  pub joined : {s t u : S} {a b : List ℕ} → takes s a t → takes t b u → takes s (a ++ b) u

-- the bytes that the sink keeps
abbrev pub kept_in : ListSink → List ℕ
kept_in s = s.bytes.items

-- whether no allocation of the sink has failed
abbrev pub is_on : ListSink → Bool
is_on s = s.on

-- a sink that is on adds the bytes to the bytes that it keeps, or goes off because an allocation failed. Once it is
-- off, it stays off, and the bytes that it keeps do not matter
abbrev pub KeptLatched : List ℕ → Bool → List ℕ → List ℕ → Bool → Type 0
KeptLatched s true bytes t true = t ≡ s ++ bytes
KeptLatched s true bytes t false = Unit {0}
KeptLatched s false bytes t true = ⊥
KeptLatched s false bytes t false = Unit {0}

-- how a sink takes bytes that it keeps in memory; `kept` gives the bytes that it keeps, and `on` whether it is on
abbrev pub KeptTakes : {S : Type 0} (kept : S → List ℕ) (on : S → Bool) → S → List ℕ → S → Type 0
KeptTakes kept on s bytes t = KeptLatched (kept s) (on s) bytes (kept t) (on t)

-- the port that the sink has borrowed
abbrev pub port_of : {W : Type 0} → WriteSink W → Port W
port_of s = s.port.now

-- the name of the sink's reference to its port
abbrev pub port_name : {W : Type 0} → WriteSink W → GName
port_name s = s.port.ghost_name

-- whether no write has failed
abbrev pub is_writing : {W : Type 0} → WriteSink W → Bool
is_writing s = s.on

-- the number of bytes written, modulo 2 ^ 64
abbrev pub written_count : {W : Type 0} → WriteSink W → ℕ
written_count s = s.count

-- the state of a port to which a sink writes: the bytes that its writer holds, if they are known; its error flag; and
-- the number of bytes that the sink has written, modulo 2 ^ 64
pub record PortState : Type 0 where
  pub contents : Option (List ℕ)
  pub erred : Bool
  pub count : ℕ

-- the bytes were written, and were counted modulo 2 ^ 64
abbrev pub WritesBytes : PortState → List ℕ → PortState → Type 0
WritesBytes s bytes t = Appends s.contents t.contents bytes × (t.count % 2 ^ 64 ≡ (s.count + length bytes) % 2 ^ 64)

-- all of the bytes were written, and no write failed: the error flag is as it was
abbrev pub WritesAll : PortState → List ℕ → PortState → Type 0
WritesAll s bytes t = WritesBytes s bytes t × (t.erred ≡ s.erred)

-- only the first n bytes were written, which are not all of them, and the error flag is set
abbrev pub WritesPrefix : PortState → List ℕ → PortState → Type 0
WritesPrefix s bytes t = (n : ℕ) × (n < length bytes) × WritesBytes s (take n bytes) t × (t.erred ≡ true)

-- a sink that is on writes all of the bytes, or writes only a first part of them and goes off. If it is off, it stays
-- off, and nothing changes
abbrev pub LatchedWrites : PortState → Bool → List ℕ → PortState → Bool → Type 0
LatchedWrites s true bytes t true = WritesAll s bytes t
LatchedWrites s true bytes t false = WritesPrefix s bytes t
LatchedWrites s false bytes t true = ⊥
LatchedWrites s false bytes t false = t ≡ s

-- how a sink takes bytes that it writes to a port; `view` gives the state of the port, `on` whether the sink is on, and
-- `name` a name that never changes. The bytes are written as `LatchedWrites` says
abbrev pub WriteTakes : {S N : Type 0} (view : S → PortState) (on : S → Bool) (name : S → N) → S → List ℕ → S → Type 0
WriteTakes view on name s bytes t = (name t ≡ name s) × LatchedWrites (view s) (on s) bytes (view t) (on t)
