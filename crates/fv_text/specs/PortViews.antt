-- The reads and writes of a run, seen from outside: the state of a port, and the text that was written to it.
use Rattle.std.specs.Prelude.{◌≡◌, ◌<◌, ℕ, Bool, true, List, Option, length, take}
use Rattle.std.specs.Io.KnownBytes.{Appends}
use Rattle.fv_base.specs.Words.{has_erred, inner_of}
use Rattle.fv_base.specs.declared.port.Port.{Port}

-- the visible state of a port: the bytes that its reader has left or that its writer holds, if they are known; and its
-- error flag
pub record PortView : Type 0 where
  pub bytes : Option (List ℕ)
  pub erred : Bool

-- the view of a port with these bytes and this error flag
abbrev pub port_view : Option (List ℕ) → Bool → PortView
port_view bytes erred = record { bytes = bytes; erred = erred }

-- the view of a port, where `known_bytes` gives the bytes that its reader has left or that its writer holds
abbrev pub view_of : {T : Type 0} → (T → Option (List ℕ)) → Port T → PortView
view_of known_bytes port = port_view (known_bytes (inner_of port)) (has_erred port)

-- the views of a port before and after a run
pub record Change : Type 0 where
  pub old : PortView
  pub new : PortView

-- the views of the ports `old` and `new`, as one port before and after a run
abbrev pub change : {T : Type 0} → (T → Option (List ℕ)) → Port T → Port T → Change
change known_bytes old new = record { old = view_of known_bytes old; new = view_of known_bytes new }

-- the text was written, and the error flag is as it was
abbrev pub Writes : PortView → PortView → List ℕ → Type 0
Writes old new text = Appends old.bytes new.bytes text × (new.erred ≡ old.erred)

-- a write of the text failed: only the first n bytes of the text were written, which are not the whole text, and the
-- error flag is set
abbrev pub StopsIn : PortView → PortView → List ℕ → Type 0
StopsIn old new text = (n : ℕ) × (n < length text) × Appends old.bytes new.bytes (take n text) × (new.erred ≡ true)
