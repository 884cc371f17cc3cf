-- Reading the path of a section number by number. A text with a point begins with a number and has the others after the
-- point (`one_more`), and a text without a point is one number (`last_one`).
use Rattle.std.proofs.Common.{◌≡◌, ◌<◌, ◌++◌, ◌∙◌, ℕ, [], ◌∷◌, List, ap, arith, append_assoc, length, refl, sym, true, false, Bool, eqb-true}
use Rattle.std.proofs.Math.ListN.{drop_of_length-le}
use Rattle.std.specs.Str.Parse.{AllDigits}
use Rattle.std.specs.List.{position_or_len, before_first, after_first}
use Rattle.fv_arguments.specs.Words.{is_point, IsNumeralOf, IsPathText}

-- decimal digits have no point among them
no_point : (digits : List ℕ) → AllDigits 10 digits → position_or_len is_point digits ≡ length digits
no_point [] h = refl
no_point (c ∷ cs) h = go (is_point c) refl (no_point cs h.1)
  where
    go : (b : Bool) → is_point c ≡ b → position_or_len is_point cs ≡ length cs
        → position_or_len is_point (c ∷ cs) ≡ length (c ∷ cs)
    go true e others = let point = rw (eqb-true c 46 e) at h.0 in absurd (omega arith)
    go false e others = rw e (omega arith)

-- the paths of the whole text are the numbers that were read, followed by the paths of the text that is left
pub record AreRead (text : List ℕ) (read : List ℕ) (rest : List ℕ) : Type 0 where
  pub joins : (path : List ℕ) → IsPathText rest path → IsPathText text (read ++ path)
  pub only : (path : List ℕ) → IsPathText text path → (after : List ℕ) × (path ≡ read ++ after) × IsPathText rest after

-- before anything was read, all of the text is left
pub none_read : (text : List ℕ) → AreRead text [] text
none_read text = record { joins = λ path h. h; only = λ path h. (path, refl, h) }

-- a path of a text with a point has a first number, which is before the point, and others
abbrev pub SplitsAtPoint : List ℕ → List ℕ → Type 0
SplitsAtPoint text path =
    (n : ℕ) × (others : List ℕ) × (path ≡ n ∷ others) × IsNumeralOf 10 64 (before_first is_point text) n
    × IsPathText (after_first is_point text) others

pub splits : (text path : List ℕ) → position_or_len is_point text < length text → IsPathText text path → SplitsAtPoint text path
splits text [] has h = absurd h
splits text (n ∷ []) has h = absurd (omega (arith, no_point text h.0.1))
splits text (n ∷ m ∷ path) has h = (n, m ∷ path, refl, h.0, h.1)

-- a text that begins with a number, and has a path after the point
joined : (text path : List ℕ) (n : ℕ) → IsNumeralOf 10 64 (before_first is_point text) n
    → IsPathText (after_first is_point text) path → IsPathText text (n ∷ path)
joined text [] n first others = absurd others
joined text (m ∷ path) n first others = (first, others)

-- equal texts spell the same number
pub same_number : (text other : List ℕ) (n : ℕ) → text ≡ other → IsNumeralOf 10 64 other n → IsNumeralOf 10 64 text n
same_number text other n is h = rw is h

-- the number before the point is read
pub one_more : (text read rest : List ℕ) (n : ℕ) → AreRead text read rest → position_or_len is_point rest < length rest
    → IsNumeralOf 10 64 (before_first is_point rest) n → AreRead text (read ++ n ∷ []) (after_first is_point rest)
one_more text read rest n are has first = record {
  joins = λ path h. rw append_assoc (are.joins (n ∷ path) (joined rest path n first h));
  only = λ path h.
      let left = are.only path h in
      let own = splits rest left.0 has left.2 in
      (own.1, left.1 ∙ ap (λ l. read ++ l) (own.2 ∙ ap (λ m. m ∷ own.1) (own.3.1 ∙ sym first.1)) ∙ sym (append_assoc read (n ∷ []) own.1), own.4);
}

-- no path is spelled by no text, and a text without a point has no text after it
no_path : (path : List ℕ) → IsPathText [] path → ⊥
no_path [] h = h
no_path (n ∷ []) h = omega (arith, h.0.0)
no_path (n ∷ m ∷ path) h = omega (arith, h.0.0.0)

nothing_after : (text : List ℕ) → position_or_len is_point text ≡ length text → after_first is_point text ≡ []
nothing_after text lacks = drop_of_length-le text (omega arith)

-- a path of a text without a point is one number
pub last_one : (text path : List ℕ) → position_or_len is_point text ≡ length text → IsPathText text path
    → (n : ℕ) × IsNumeralOf 10 64 text n
last_one text [] lacks h = absurd h
last_one text (n ∷ []) lacks h = (n, h)
last_one text (n ∷ m ∷ path) lacks h = absurd (no_path (m ∷ path) (rw (nothing_after text lacks) at h.1))
