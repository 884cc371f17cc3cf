-- The text of all levels: its lines are the lines of the image, of the other sources and of the closed sections, and the
-- last line (`whole_text`, `front_image`, `front_sources`).
use Rattle.std.proofs.Common.{◌≡◌, ◌+◌, ◌*◌, ◌≤◌, ◌<◌, ◌^◌, ℕ, zero, suc, List, [], ◌∷◌, ◌++◌, length, map, take, Option, Some, None, slice_get, refl, sym, ap}
use Rattle.std.proofs.Common.{ap₂, ◌∙◌, append_assoc, append-nil, subst, arith}
use Rattle.std.specs.List.{concat, flat_map}
use Rattle.std.proofs.Math.Nat.{zero-add}
use Rattle.std.proofs.lemmas.List.Concat.{concat_is}
use Rattle.std.proofs.lemmas.List.Folds.{concat-append, flat_map-map}
use Rattle.fv_base.specs.Words.{WalkLaws}
use Rattle.fv_levels.specs.Words.{LevelsForm, SourceForm, rows_as, rows_of}
use Rattle.fv_levels.specs.declared.place.Closed.{Closed}
use Rattle.fv_levels.specs.declared.place.Origin.{Origin}
use Rattle.fv_survey.specs.declared.row.Row.{Row}
use Rattle.fv_survey.specs.Words.{Tile, survey_of_sections}
use Rattle.fv_survey_lines.specs.Words.{AccountFor, account_text, row_line, rows_text, totals_line}
use Rattle.fv_survey_lines.proofs.Laws.{image_account}
use Rattle.fv_level_lines.specs.Words.{account_lines, closed_line, counts_line, head_lines, levels_lines, levels_text, source_lines, sources_lines}
use Rattle.fv_level_lines.proofs.LineLemmas.{first_after, first_of}

-- ---- the lines of one source

concat_one : (line : List ℕ) → concat (line ∷ []) ≡ line
concat_one line = append-nil line

concat_rows : (rows : List Row) → concat (map row_line rows) ≡ rows_text rows
concat_rows rows = concat_is (map row_line rows) ∙ flat_map-map (λ x. x) row_line rows

pub concat_account : (n : ℕ) (rows : List Row) → concat (account_lines n rows) ≡ account_text n rows
concat_account n rows =
    concat-append (map row_line rows) (totals_line n rows ∷ []) ∙ ap₂ (λ a b. a ++ b) (concat_rows rows) (concat_one (totals_line n rows))

first_rows : (n : ℕ) (rows : List Row) → take n (map row_line rows) ≡ map row_line (take n rows)
first_rows zero rows = refl
first_rows (suc n) [] = refl
first_rows (suc n) (row ∷ rows) = ap (λ l. row_line row ∷ l) (first_rows n rows)

-- the lines of the first rows are the first lines
pub front_account : (n size : ℕ) (rows : List Row) → (m : ℕ) × (concat (take m (account_lines size rows)) ≡ rows_text (take n rows))
front_account n size rows =
    let own = first_of n (map row_line rows) (totals_line size rows ∷ []) in
    (own.0, ap concat (own.1 ∙ first_rows n rows) ∙ concat_rows (take n rows))

-- the rows of a source account for its bytes
pub source_account : ((b : List ℕ) → length b < 2 ^ 63 → Tile (length b) (survey_of_sections b))
    → ((b : List ℕ) → length (survey_of_sections b) ≤ 2 * length b) → (s : SourceForm) → length s.bytes < 2 ^ 63
    → AccountFor (length s.bytes) (rows_of s)
source_account tile few s room = go s.origin where
  go : (o : Option Origin) → AccountFor (length s.bytes) (rows_as o s.bytes)
  go None = image_account s.bytes room
  go (Some origin) = record { room = room; tile = tile s.bytes room; few = few s.bytes }

-- the line of a source and the lines of its survey are its lines
pub put_own : {S : Type 0} {takes : S → List ℕ → S → Type 0} {s u v : S} → WalkLaws takes → (number : ℕ) (x : SourceForm)
    → takes s (concat (head_lines number x.origin (length x.bytes))) u → takes u (account_text (length x.bytes) (rows_of x)) v
    → takes s (concat (source_lines number x)) v
put_own {takes = takes} {s = s} {v = v} laws number x head rows =
    let lines = concat-append (head_lines number x.origin (length x.bytes)) (account_lines (length x.bytes) (rows_of x)) in
    subst (λ text. takes s text v)
    (sym (lines ∙ ap (λ l. concat (head_lines number x.origin (length x.bytes)) ++ l) (concat_account (length x.bytes) (rows_of x))))
    (laws.joined head rows)

-- the line of a source and the lines of its first rows are its first lines
pub put_own_front : {S : Type 0} {takes : S → List ℕ → S → Type 0} {s u v : S} → WalkLaws takes → (number : ℕ) (x : SourceForm)
    → takes s (concat (head_lines number x.origin (length x.bytes))) u → (n : ℕ) × takes u (rows_text (take n (rows_of x))) v
    → (m : ℕ) × takes s (concat (take m (source_lines number x))) v
put_own_front {takes = takes} {s = s} {v = v} laws number x head (n, rows) =
    let heads : List (List ℕ) = head_lines number x.origin (length x.bytes) in
    let lines : List (List ℕ) = account_lines (length x.bytes) (rows_of x) in
    let own = front_account n (length x.bytes) (rows_of x) in
    let both = first_after own.0 heads lines in (
      both.0,
      subst (λ text. takes s text v)
          (sym (ap concat both.1 ∙ concat-append heads (take own.0 lines) ∙ ap (λ l. concat heads ++ l) own.1)) (laws.joined head rows),
    )

-- ---- the lines of closed sections

pub concat_closed : (cs : List Closed) → concat (map closed_line cs) ≡ flat_map closed_line cs
concat_closed cs = concat_is (map closed_line cs) ∙ flat_map-map (λ x. x) closed_line cs

-- ---- all lines

-- lines of the image, of the other sources and of closed sections, and the last line
abbrev pub all_lines : (image sources closed : List (List ℕ)) (last : List ℕ) → List (List ℕ)
all_lines image sources closed last = (image ++ sources) ++ (closed ++ (last ∷ []))

all_text : (image sources closed : List (List ℕ)) (last : List ℕ) → concat (all_lines image sources closed last)
    ≡ concat image ++ (concat sources ++ (concat closed ++ last))
all_text image sources closed last =
    concat-append (image ++ sources) (closed ++ (last ∷ []))
    ∙ ap₂ (λ a b. a ++ b) (concat-append image sources) (concat-append closed (last ∷ []) ∙ ap (λ l. concat closed ++ l) (concat_one last))
    ∙ append_assoc (concat image) (concat sources) (concat closed ++ last)

pub put_whole : {S : Type 0} {takes : S → List ℕ → S → Type 0} {s t u v w : S} → WalkLaws takes → (size : ℕ) (rows : List Row)
    → (sources : List (List ℕ)) (cs : List Closed) (last : List ℕ) → takes s (account_text size rows) t
    → takes t (concat sources) u → takes u (flat_map closed_line cs) v → takes v last w
    → takes s (concat (all_lines (account_lines size rows) sources (map closed_line cs) last)) w
put_whole {takes = takes} {s = s} {t = t} {u = u} {v = v} {w = w} laws size rows sources cs last one two three four =
    let image = subst (λ text. takes s text t) (sym (concat_account size rows)) one in
    let closed = subst (λ text. takes u text v) (sym (concat_closed cs)) three in
    subst (λ text. takes s text w) (sym (all_text (account_lines size rows) sources (map closed_line cs) last))
    (laws.joined image (laws.joined two (laws.joined closed four)))

-- the lines of the first rows of the image are the first lines
pub front_image : {S : Type 0} (takes : S → List ℕ → S → Type 0) {s t : S} (size : ℕ) (rows : List Row) (sources closed : List (List ℕ))
    → (last : List ℕ) → (n : ℕ) × takes s (rows_text (take n rows)) t
    → (m : ℕ) × takes s (concat (take m (all_lines (account_lines size rows) sources closed last))) t
front_image takes {s = s} {t = t} size rows sources closed last (n, put) =
    let own = front_account n size rows in
    let more = first_of own.0 (account_lines size rows) sources in
    let all = first_of more.0 (account_lines size rows ++ sources) (closed ++ (last ∷ [])) in
    (all.0, subst (λ text. takes s text t) (sym (ap concat (all.1 ∙ more.1) ∙ own.1)) put)

-- the lines of the image and the first lines of the other sources are the first lines
pub front_sources : {S : Type 0} {takes : S → List ℕ → S → Type 0} {s t u : S} → WalkLaws takes → (size : ℕ) (rows : List Row)
    → (sources closed : List (List ℕ)) (last : List ℕ) → takes s (account_text size rows) t → (n : ℕ) × takes t (concat (take n sources)) u
    → (m : ℕ) × takes s (concat (take m (all_lines (account_lines size rows) sources closed last))) u
front_sources {takes = takes} {s = s} {t = t} {u = u} laws size rows sources closed last image (n, put) =
    let more = first_after n (account_lines size rows) sources in
    let all = first_of more.0 (account_lines size rows ++ sources) (closed ++ (last ∷ [])) in
    let own = subst (λ text. takes s text t) (sym (concat_account size rows)) image in (
      all.0,
      subst (λ text. takes s text u) (sym (ap concat (all.1 ∙ more.1) ∙ concat-append (account_lines size rows) (take n sources)))
          (laws.joined own put),
    )

-- ---- where the lines of a source and of a closed section are

-- these lines are among the lines
abbrev pub Among : List (List ℕ) → List (List ℕ) → Type 0
Among lines all = (before : List (List ℕ)) × (after : List (List ℕ)) × (all ≡ before ++ (lines ++ after))

pub in_sources : (n i : ℕ) (ss : List SourceForm) (s : SourceForm) → slice_get ss i ≡ Some s → Among (source_lines (n + i) s) (sources_lines n ss)
in_sources n i [] s is = cc
in_sources n zero (x ∷ ss) s is =
    let same : x ≡ s = cc in
    let e : n + 0 ≡ n = omega arith in
    ([], sources_lines (n + 1) ss, rw (same, e) refl)
in_sources n (suc i) (x ∷ ss) s is =
    let r = in_sources (n + 1) i ss s is in
    let e : n + 1 + i ≡ n + suc i = omega arith in (
      source_lines n x ++ r.0,
      r.1,
      ap (λ l. source_lines n x ++ l) (subst (λ k. sources_lines (n + 1) ss ≡ r.0 ++ (source_lines k s ++ r.1)) e r.2)
          ∙ sym (append_assoc (source_lines n x) r.0 (source_lines (n + suc i) s ++ r.1)),
    )

pub in_closed : (i : ℕ) (cs : List Closed) (c : Closed) → slice_get cs i ≡ Some c → Among (closed_line c ∷ []) (map closed_line cs)
in_closed i [] c is = cc
in_closed zero (x ∷ cs) c is =
    let same : x ≡ c = cc in
    ([], map closed_line cs, rw same refl)
in_closed (suc i) (x ∷ cs) c is =
    let r = in_closed i cs c is in (closed_line x ∷ r.0, r.1, ap (λ l. closed_line x ∷ l) r.2)

among_first : (lines xs ys : List (List ℕ)) → Among lines xs → Among lines (xs ++ ys)
among_first lines xs ys (before, after, is) = (
  before,
  after ++ ys,
  ap (λ l. l ++ ys) is ∙ (append_assoc before (lines ++ after) ys ∙ ap (λ l. before ++ l) (append_assoc lines after ys)),
)

among_second : (lines xs ys : List (List ℕ)) → Among lines ys → Among lines (xs ++ ys)
among_second lines xs ys (before, after, is) =
    (xs ++ before, after, ap (λ l. xs ++ l) is ∙ sym (append_assoc xs before (lines ++ after)))

among_text : (lines all : List (List ℕ)) → Among lines all
    → (before : List ℕ) × (after : List ℕ) × (concat all ≡ before ++ (concat lines ++ after))
among_text lines all (before, after, is) = (
  concat before,
  concat after,
  ap concat is ∙ (concat-append before (lines ++ after) ∙ ap (λ l. concat before ++ l) (concat-append lines after)),
)

pub source_in_text : (w : LevelsForm) (number : ℕ) (s : SourceForm) → slice_get w.sources number ≡ Some s
    → (before : List ℕ) × (after : List ℕ) × (levels_text w ≡ before ++ (concat (source_lines number s) ++ after))
source_in_text w number s is =
    among_text (source_lines number s) (levels_lines w)
    (among_first (source_lines number s) (sources_lines 0 w.sources) (map closed_line w.closed ++ (counts_line w ∷ []))
    (subst (λ k. Among (source_lines k s) (sources_lines 0 w.sources)) (zero-add number) (in_sources 0 number w.sources s is)))

pub closed_in_text : (w : LevelsForm) (number : ℕ) (c : Closed) → slice_get w.closed number ≡ Some c
    → (before : List ℕ) × (after : List ℕ) × (levels_text w ≡ before ++ (closed_line c ++ after))
closed_in_text w number c is =
    let own = among_first (closed_line c ∷ []) (map closed_line w.closed) (counts_line w ∷ []) (in_closed number w.closed c is) in
    let (before, after, text) =
    among_text (closed_line c ∷ []) (levels_lines w)
    (among_second (closed_line c ∷ []) (sources_lines 0 w.sources) (map closed_line w.closed ++ (counts_line w ∷ [])) own) in
    (before, after, text ∙ ap (λ l. before ++ (l ++ after)) (concat_one (closed_line c)))

-- the text begins with the lines of the image
pub begins_with_image : (size : ℕ) (rows : List Row) (sources closed : List (List ℕ)) (last : List ℕ)
    → (rest : List ℕ) × (concat (all_lines (account_lines size rows) sources closed last) ≡ account_text size rows ++ rest)
begins_with_image size rows sources closed last = (
  concat sources ++ (concat closed ++ last),
  all_text (account_lines size rows) sources closed last ∙ ap (λ l. l ++ (concat sources ++ (concat closed ++ last))) (concat_account size rows),
)
