-- A volume after the data of its files changed. It has the same header (`still`). Cells with the same headers tile its
-- body (`new_body`), so it has files with the same headers and places (`still_files`). The data of each file are what
-- other data became (`became`).
use Rattle.std.proofs.Common.{◌≡◌, ◌≤◌, ℕ, ◌-◌, [], ◌∷◌, ◌++◌}
use Rattle.fv_base.proofs.Laws.{List, length, take, drop, refl, sym, ap, ◌∙◌, subst, arith, field, append_assoc, drop_at, take_at, true, false, Bool}
use Rattle.fv_base.proofs.Laws.{AllByRecursion, drop-take, filter, length-append, length-drop, length-take-le}
use Rattle.fv_base.proofs.Laws.{list_any, not}
use Rattle.fv_base.specs.declared.flash.FileSystem.{FileSystem}
use Rattle.fv_base.specs.declared.flash.Polarity.{Polarity}
use Rattle.fv_file.specs.Words.{CellForm, Valid, Pad, Dead, Stub, Free, Tiles}
use Rattle.fv_file.specs.declared.head.FileHead.{FileHead}
use Rattle.fv_head.specs.Words.{BeginsVolume, HeadFields}
use Rattle.fv_head.specs.declared.extent.Extent.{Extent}
use Rattle.fv_head.proofs.Laws.{first_lies}
use Rattle.fv_tree.specs.Words.{AreFilesOf, FileForm, Pairwise, current_in}
use Rattle.fv_tree.specs.Words.{NoStoredTwins, TopAtEnd, is_stored_twin, files_in, holds_sections, superseded_by}
use Rattle.fv_tree.proofs.Laws.{header_kept, kept}
use Rattle.fv_marks.specs.Words.{DataLose, EachFileLoses, Loses}
use Rattle.fv_marks.proofs.CellChangeLemmas.{CellLoses, Changed, KeptLose, cells_changed}
use Rattle.fv_marks.proofs.PartLemmas.{three_parts}
use Rattle.fv_marks.proofs.SumLemmas.{SumsStay}

-- ---- the files of a volume whose data changed

-- the data of the file g are what other data became
abbrev pub FileBecame : Loses → FileForm → Type 0
FileBecame stream g = (y : List ℕ) × DataLose stream (holds_sections g.head.kind) y g.payload

module _ (stream : Loses) (stay : SumsStay stream) (keep : FileForm → Bool) (s : FileSystem) (p : Polarity) where
  abbrev pub Cells : List CellForm → List CellForm → Type 0
  Cells cs ds = Pairwise (CellLoses stream stay keep s p) cs ds

  module _ (now : FileForm → Bool)
      (alike : (at : ℕ) (head : FileHead) (y x : List ℕ)
      → now (record { offset = at; head = head; payload = x }) ≡ keep (record { offset = at; head = head; payload = y })) where
    one_became : (at : ℕ) (head : FileHead) (y x : List ℕ) (ds : List CellForm) (t : Bool)
        → now (record { offset = at; head = head; payload = x }) ≡ t
        → KeptLose stream stay keep s p (keep (record { offset = at; head = head; payload = y })) head y x
        → AllByRecursion (FileBecame stream) (filter now (files_in ds)) → AllByRecursion (FileBecame stream) (filter now (files_in (Valid at head x ∷ ds)))
    one_became at head y x ds false unkept lost rest = rw unkept rest
    one_became at head y x ds true current lost rest =
        let change : DataLose stream (holds_sections head.kind) y x =
        subst (λ (t : Bool). KeptLose stream stay keep s p t head y x) (sym (alike at head y x) ∙ current) lost in
        rw current ((y, change), rest)

    pub files_became : (cs ds : List CellForm) → Cells cs ds → AllByRecursion (FileBecame stream) (filter now (files_in ds))
    files_became [] [] lost = tt
    files_became [] (d ∷ ds) lost = absurd lost
    files_became (c ∷ cs) [] lost = absurd lost
    files_became (Valid at head y ∷ cs) (d ∷ ds) ((x, is, kept), more) =
        rw is (one_became at head y x ds (now (record { offset = at; head = head; payload = x })) refl kept (files_became cs ds more))
    files_became (Pad at head y ∷ cs) (d ∷ ds) (is, more) = rw is (files_became cs ds more)
    files_became (Dead at i state ∷ cs) (d ∷ ds) (is, more) = rw is (files_became cs ds more)
    files_became (Stub at i ∷ cs) (d ∷ ds) (is, more) = rw is (files_became cs ds more)
    files_became (Free at i ∷ cs) (d ∷ ds) (is, more) = rw is (files_became cs ds more)

-- ---- the names of these files

-- the file g has the place and the header of f
abbrev pub Alike : FileForm → FileForm → Type 0
Alike f g = (g.offset ≡ f.offset) × (g.head ≡ f.head)

all_alike : (stream : Loses) (stay : SumsStay stream) (keep : FileForm → Bool) (s : FileSystem) (p : Polarity) (cs ds : List CellForm)
    → Pairwise (CellLoses stream stay keep s p) cs ds → Pairwise Alike (files_in cs) (files_in ds)
all_alike stream stay keep s p [] [] lost = tt
all_alike stream stay keep s p [] (d ∷ ds) lost = absurd lost
all_alike stream stay keep s p (c ∷ cs) [] lost = absurd lost
all_alike stream stay keep s p (Valid at head y ∷ cs) (d ∷ ds) ((x, is, kept), more) = rw is ((refl, refl), all_alike stream stay keep s p cs ds more)
all_alike stream stay keep s p (Pad at head y ∷ cs) (d ∷ ds) (is, more) = rw is (all_alike stream stay keep s p cs ds more)
all_alike stream stay keep s p (Dead at i state ∷ cs) (d ∷ ds) (is, more) = rw is (all_alike stream stay keep s p cs ds more)
all_alike stream stay keep s p (Stub at i ∷ cs) (d ∷ ds) (is, more) = rw is (all_alike stream stay keep s p cs ds more)
all_alike stream stay keep s p (Free at i ∷ cs) (d ∷ ds) (is, more) = rw is (all_alike stream stay keep s p cs ds more)

-- tests that do not differ for the same header hold for a file of both lists, or for none
any_same : (test now : FileForm → Bool) → ((f g : FileForm) → Alike f g → now g ≡ test f) → (fs gs : List FileForm)
    → Pairwise Alike fs gs → list_any now gs ≡ list_any test fs
any_same test now same [] [] all = refl
any_same test now same [] (y ∷ gs) all = absurd all
any_same test now same (x ∷ fs) [] all = absurd all
any_same test now same (x ∷ fs) (y ∷ gs) all = rw (same x y all.0, any_same test now same fs gs all.1) refl

none_twins : (fs gs : List FileForm) → Pairwise Alike fs gs → NoStoredTwins fs → NoStoredTwins gs
none_twins [] [] all none = tt
none_twins [] (y ∷ gs) all none = absurd all
none_twins (x ∷ fs) [] all none = absurd all
none_twins (x ∷ fs) (y ∷ gs) all none =
    (any_same (is_stored_twin x) (is_stored_twin y) (λ f g is. rw (all.0.1, is.1) refl) fs gs all.1 ∙ none.0, none_twins fs gs all.1 none.1)

still_top : (n : ℕ) (fs gs : List FileForm) → Pairwise Alike fs gs → TopAtEnd n fs → TopAtEnd n gs
still_top n [] [] all top = tt
still_top n [] (y ∷ gs) all top = absurd all
still_top n (x ∷ fs) [] all top = absurd all
still_top n (x ∷ []) (y ∷ []) all top = rw (all.0.0, all.0.1) top
still_top n (x ∷ []) (y ∷ z ∷ gs) all top = absurd all.1
still_top n (x ∷ w ∷ fs) (y ∷ []) all top = absurd all.1
still_top n (x ∷ w ∷ fs) (y ∷ z ∷ gs) all top = ((rw all.0.1 top.0), still_top n (w ∷ fs) (z ∷ gs) all.1 top.1)

-- tests that do not differ for the same header select the same files
one_alike : (keep now : FileForm → Bool) (f g : FileForm) (fs gs : List FileForm) (t : Bool) → Alike f g → keep f ≡ t → now g ≡ t
    → Pairwise Alike (filter keep fs) (filter now gs) → Pairwise Alike (filter keep (f ∷ fs)) (filter now (g ∷ gs))
one_alike keep now f g fs gs true is kept stays all = rw (kept, stays) (is, all)
one_alike keep now f g fs gs false is left leaves all = rw (left, leaves) all

kept_alike : (keep now : FileForm → Bool) → ((f g : FileForm) → Alike f g → now g ≡ keep f) → (fs gs : List FileForm)
    → Pairwise Alike fs gs → Pairwise Alike (filter keep fs) (filter now gs)
kept_alike keep now same [] [] all = tt
kept_alike keep now same [] (y ∷ gs) all = absurd all
kept_alike keep now same (x ∷ fs) [] all = absurd all
kept_alike keep now same (x ∷ fs) (y ∷ gs) all =
    one_alike keep now x y fs gs (keep x) all.0 refl (same x y all.0) (kept_alike keep now same fs gs all.1)

-- ---- a volume

module _ (stream : Loses) (stay : SumsStay stream) (b o : List ℕ) (h : HeadFields) (x : Extent) (front : BeginsVolume h x b)
    (fs : List FileForm) (are : AreFilesOf x (take x.length b) fs) (lost : EachFileLoses stream fs b o) where
  low : x.first ≤ x.length
  low = (first_lies b h x front).1

  abbrev before : List ℕ
  before = take x.first b

  abbrev body : List ℕ
  body = drop x.first (take x.length b)

  abbrev pub keep : FileForm → Bool
  keep = λ (f : FileForm). not (list_any (superseded_by f) (files_in are.cells))

  before_long : length before ≡ x.first
  before_long = length-take-le x.first b (omega (arith, low, front.is_within))

  body_long : length body ≡ x.length - x.first
  body_long = omega (arith, length-drop x.first (take x.length b), length-take-le x.length b front.is_within)

  body_is : body ≡ field x.first (x.length - x.first) b
  body_is = ap (λ (n : ℕ). drop x.first (take n b)) (omega (arith, low)) ∙ drop-take x.first (x.length - x.first) b

  whole : b ≡ before ++ (body ++ drop x.length b)
  whole = sym (
      ap (λ (l : List ℕ). before ++ (l ++ drop x.length b)) body_is
      ∙ ap (λ (n : ℕ). before ++ (field x.first (x.length - x.first) b ++ drop n b)) (omega (arith, low))
      ∙ three_parts x.first (x.length - x.first) b
      )

  each : EachFileLoses stream (filter keep (files_in are.cells)) (before ++ (body ++ drop x.length b)) o
  each = subst (λ (l : List ℕ). EachFileLoses stream (filter keep (files_in are.cells)) l o) whole
      (subst (λ (l : List FileForm). EachFileLoses stream l b o) are.current.files_are lost)

  pub changed : Changed stream stay keep x.file_system x.polarity x.first are.cells before body (drop x.length b) o
  changed = cells_changed stream stay keep x.file_system x.polarity x.first are.cells before body (drop x.length b) o before_long are.tiles each

  text : o ≡ (before ++ changed.new) ++ drop x.length b
  text = changed.text ∙ sym (append_assoc before changed.new (drop x.length b))

  new_long : length (before ++ changed.new) ≡ x.length
  new_long = omega (arith, length-append before changed.new, before_long, changed.long, body_long, low)

  pub still : BeginsVolume h x o
  still = header_kept b o h x front
      (omega (arith, ap length text, length-append (before ++ changed.new) (drop x.length b), new_long, length-drop x.length b, front.is_within))
      (ap (take x.first) changed.text ∙ take_at before (changed.new ++ drop x.length b) x.first before_long)

  pub new_body : drop x.first (take x.length o) ≡ changed.new
  new_body = ap (drop x.first) (ap (take x.length) text ∙ take_at (before ++ changed.new) (drop x.length b) x.length new_long)
      ∙ drop_at before changed.new x.first before_long

  all : Pairwise Alike (files_in are.cells) (files_in changed.cells)
  all = all_alike stream stay keep x.file_system x.polarity are.cells changed.cells changed.lost

  -- the test of the current files
  abbrev now : FileForm → Bool
  now = λ (f : FileForm). not (list_any (superseded_by f) (files_in changed.cells))

  now_same : (f g : FileForm) → Alike f g → now g ≡ keep f
  now_same f g is =
      ap not (any_same (superseded_by f) (superseded_by g) (λ h k alike. rw (is.1, alike.1) refl)
      (files_in are.cells) (files_in changed.cells) all)

  pub became : AllByRecursion (FileBecame stream) (current_in (files_in changed.cells))
  became = files_became stream stay keep x.file_system x.polarity now
      (λ at head y z. now_same (record { offset = at; head = head; payload = y }) (record { offset = at; head = head; payload = z }) (refl, refl))
      are.cells changed.cells changed.lost

  -- the files of the volume have the same places and headers
  pub still_files : AreFilesOf x (take x.length o) (current_in (files_in changed.cells))
  still_files =
      let current : Pairwise Alike (current_in (files_in are.cells)) (current_in (files_in changed.cells)) =
      kept_alike keep now now_same (files_in are.cells) (files_in changed.cells) all in
      record {
        cells = changed.cells;
        tiles = subst (λ (l : List ℕ). Tiles x.file_system x.polarity x.first changed.cells l) (sym new_body) changed.tiles;
        current = record {
          no_twins = none_twins (files_in are.cells) (files_in changed.cells) all are.current.no_twins;
          files_are = refl;
          top = still_top x.length (current_in (files_in are.cells)) (current_in (files_in changed.cells)) current
              (subst (TopAtEnd x.length) are.current.files_are are.current.top);
        };
      }
