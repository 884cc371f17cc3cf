-- Sinks that put bytes into a sink below: at once, or after the bytes have waited; as they are, or as lines of digits.
use Rattle.std.specs.Prelude.{◌≡◌, ℕ, List, ◌++◌, length}
use Rattle.std.specs.List.{AllByRecursion, concat, flat_map}
use Rattle.fv_text.specs.HexText.{line_text}

-- the lent sink takes the bytes, and the reference to it stays the same
abbrev pub LentTakes : {S H N : Type 0} (takes : S → List ℕ → S → Type 0) (lent : H → S) (name : H → N) → H → List ℕ → H
    → Type 0
LentTakes takes lent name s bytes t = (name t ≡ name s) × takes (lent s) bytes (lent t)

-- how a gathering sink takes bytes. The sink below was s while the bytes p waited. The new bytes were added after p, a
-- first part of this list was put into the sink below, so it is t, and the rest q waits
pub record Gathered {S : Type 0} (takes : S → List ℕ → S → Type 0) (s : S) (p bytes : List ℕ) (t : S)
    (q : List ℕ) : Type 0 where
  pub passed : List ℕ
  pub joined : p ++ bytes ≡ passed ++ q
  pub taken : takes s passed t

-- how a sink of lines takes bytes. The sink below was s while the bytes p waited. The new bytes were added after p, a
-- first part of this list was put into the sink below as whole lines, each of 32 bytes, so it is t, and the rest q waits
pub record Lined {S : Type 0} (takes : S → List ℕ → S → Type 0) (s : S) (p bytes : List ℕ) (t : S)
    (q : List ℕ) : Type 0 where
  pub lines : List (List ℕ)
  pub joined : p ++ bytes ≡ concat lines ++ q
  pub whole_lines : AllByRecursion (λ b. length b ≡ 32) lines
  pub taken : takes s (flat_map line_text lines) t
