-- The edges after which files can be placed, found file by file from the last.
use Rattle.std.specs.Prelude.{◌≡◌, ℕ, ◌+◌, ◌%◌, ◌^◌, ◌<◌, ◌≤◌, ◌⊎◌, List, length, drop, get_or, IsTrue}
use Rattle.fv_base.specs.Words.{up_to_8}
use Rattle.fv_placement.specs.Starts.{Lawful, StartsFollow}
use Rattle.fv_placement.specs.declared.first_placement.PlacementItem.{PlacementItem}
use Rattle.fv_placement.specs.declared.reach.Reach.{Reach}

-- the multiples of a are exactly the common multiples of 8 and of the alignment b
pub record Widens (a b : ℕ) : Type 0 where
  pub wide : 8 ≤ a
  pub small : a < 2 ^ 25
  pub both : (x : ℕ) → x % a ≡ 0 → (x % 8 ≡ 0) × (x % b ≡ 0)
  pub joined : (x : ℕ) → x % 8 ≡ 0 → x % b ≡ 0 → x % a ≡ 0

-- the files can be placed after the edge e
pub record CanPlace (total e : ℕ) (fs : List PlacementItem) : Type 0 where
  pub room : e ≤ total
  pub starts : List ℕ
  pub follow : StartsFollow total e fs starts

-- the edge e is usable by the reach r: it is the greatest usable edge, at least 24 bytes below it, or 8 or 16 bytes
-- below it if `near` or `far` says so
abbrev pub IsUsableEdge : Reach → ℕ → Type 0
IsUsableEdge r e = ((e + 24 ≤ r.greatest) ⊎ (e ≡ r.greatest))
    ⊎ (((e + 8 ≡ r.greatest) × IsTrue r.near) ⊎ ((e + 16 ≡ r.greatest) × IsTrue r.far))

-- every edge after which the files can be placed is usable by the reach
pub record IsBound (total : ℕ) (fs : List PlacementItem) (r : Reach) : Type 0 where
  pub greatest : r.greatest ≤ total
  pub complete : (e : ℕ) → e % 8 ≡ 0 → CanPlace total e fs → IsUsableEdge r e

-- the edges that are usable by the reach are exactly the edges after which the files can be placed
pub record IsReach (total : ℕ) (fs : List PlacementItem) (r : Reach) : Type 0 where
  pub bound : IsBound total fs r
  pub eighth : r.greatest % 8 ≡ 0
  pub sound : (e : ℕ) → e % 8 ≡ 0 → IsUsableEdge r e → CanPlace total e fs

-- P holds for the files after file i and item i of the list, for each i. The list may be shorter than the list of files
abbrev pub AreReaches : (List PlacementItem → Reach → Type 0) → List PlacementItem → List Reach → Type 0
AreReaches P fs reaches = (i : ℕ) (d : Reach) → i < length reaches → P (drop (i + 1) fs) (get_or reaches i d)

-- s is a usable start of f, if the files after it have the reach r
pub record IsUsableStart (total : ℕ) (f : PlacementItem) (r : Reach) (s : ℕ) : Type 0 where
  pub eighth : s % 8 ≡ 0
  pub aligned : (s + f.header) % f.alignment ≡ 0
  pub at_end : IsTrue f.top → s + f.size ≡ total
  pub edge : IsUsableEdge r (up_to_8 (s + f.size))

-- s is the least start of f that is lawful after the edge e and usable
pub record IsFirstStart (total e : ℕ) (f : PlacementItem) (r : Reach) (s : ℕ) : Type 0 where
  pub lawful : Lawful e f s
  pub usable : IsUsableStart total f r s
  pub least : (t : ℕ) → Lawful e f t → IsUsableStart total f r t → s ≤ t

-- `r.greatest` is the greatest usable start of f, and `r.near` and `r.far` say whether the starts 8 and 16 bytes below
-- it are usable
pub record IsGreatest (total : ℕ) (f : PlacementItem) (after : Reach) (r : Reach) : Type 0 where
  pub usable : IsUsableStart total f after r.greatest
  pub most : (t : ℕ) → IsUsableStart total f after t → t ≤ r.greatest
  pub near : (t : ℕ) → t + 8 ≡ r.greatest
      → (IsTrue r.near → IsUsableStart total f after t) × (IsUsableStart total f after t → IsTrue r.near)
  pub far : (t : ℕ) → t + 16 ≡ r.greatest
      → (IsTrue r.far → IsUsableStart total f after t) × (IsUsableStart total f after t → IsTrue r.far)
