-- A sink that fills a borrowed buffer from its start.
use Rattle.std.specs.Prelude.{◌≡◌, ℕ, List, ◌++◌, length, take, drop}
use Rattle.std.specs.Borrow.{GName}
use Rattle.fv_sinks.specs.declared.buffer_sink.BufferSink.{BufferSink}

-- the name of the sink's reference to its buffer
abbrev pub buffer_name : BufferSink → GName
buffer_name s = s.buffer.ghost_name

-- the first part of the buffer: the bytes that were taken
abbrev pub taken_in : BufferSink → List ℕ
taken_in s = take s.len s.buffer.now

-- the rest of the buffer, after the bytes that were taken
abbrev pub rest_in : BufferSink → List ℕ
rest_in s = drop s.len s.buffer.now

-- the bytes, as many of them as there is room for, follow the bytes that were taken before, and the rest of the buffer
-- is as it was
abbrev pub BufferTakes : {S N : Type 0} (taken rest : S → List ℕ) (name : S → N) → S → List ℕ → S → Type 0
BufferTakes taken rest name s bytes t =
    (name t ≡ name s) × (taken t ≡ taken s ++ take (length (rest s)) bytes) × (rest t ≡ drop (length bytes) (rest s))
