-- A body after the data of its files changed: it is tiled by cells with the same headers and places, and the data of
-- each file became other data (`cells_changed`).
use Rattle.std.proofs.Common.{◌≡◌, ℕ, ◌+◌, ◌%◌, ◌==◌, [], ◌∷◌, ◌++◌, sum, if◌then◌else◌}
use Rattle.fv_base.proofs.Laws.{List, length, take, drop, refl, sym, ap, ◌∙◌, subst, arith, field, append_assoc, drop-drop, drop_at, take_at, true, false, Bool}
use Rattle.fv_base.proofs.Laws.{filter, length-append}
use Rattle.fv_base.specs.declared.flash.FileSystem.{FileSystem}
use Rattle.fv_base.specs.declared.flash.Polarity.{Polarity}
use Rattle.fv_file.specs.Words.{CellForm, Valid, Pad, Dead, Stub, Free, IsCell, IsFilled, Tiles, file_sum_right, fixed_checksum, is_free, is_summed}
use Rattle.fv_file.specs.Words.{attribute_bits, offset_of}
use Rattle.fv_file.specs.declared.head.FileHead.{FileHead}
use Rattle.fv_tree.specs.Words.{FileForm, Pairwise, files_in, holds_sections}
use Rattle.fv_marks.specs.Words.{ChangesPart, DataLose, EachFileLoses, Loses}
use Rattle.fv_marks.proofs.SumLemmas.{KeepsSum, SumsStay, data_sum}

-- ---- a part of joined bytes

pub part_in : (loses : Loses) (x y z b o : List ℕ) (p n : ℕ) → b ≡ x ++ (y ++ z) → length x ≡ p → length y ≡ n → ChangesPart loses p n b o
    → (w : List ℕ) × loses y w × (o ≡ x ++ (w ++ z))
part_in loses x y z b o p n text before long (w, lost, is) =
    let front : take p b ≡ x = ap (take p) text ∙ take_at x (y ++ z) p before in
    let behind : drop p b ≡ y ++ z = ap (drop p) text ∙ drop_at x (y ++ z) p before in
    let part : field p n b ≡ y = ap (take n) behind ∙ take_at y z n long in
    let rest : drop (p + n) b ≡ z = sym (drop-drop n p b) ∙ ap (drop n) behind ∙ drop_at y z n long in (
      w,
      subst (λ (l : List ℕ). loses l w) part lost,
      is ∙ ap (λ (l : List ℕ). l ++ (w ++ drop (p + n) b)) front ∙ ap (λ (l : List ℕ). x ++ (w ++ l)) rest,
    )

-- ---- a file

sum_right : (a n : ℕ) (y x : List ℕ) → KeepsSum y x → file_sum_right a n x ≡ file_sum_right a n y
sum_right a n y x keeps =
    let same : (sum x + n) % 256 ≡ (sum y + n) % 256 = omega (arith, keeps.1) in
    ap (λ (k : ℕ). if is_summed a then k == 0 else n == fixed_checksum) same

module _ (s : FileSystem) (p : Polarity) (at : ℕ) (head : FileHead) (y x b : List ℕ) (is : IsCell s p (Valid at head y) b) (keeps : KeepsSum y x) where
  abbrev pub filled : IsFilled s p head y b
  filled = is.0

  abbrev pub header : List ℕ
  header = filled.is_file.header

  -- the bytes of the cell with other data
  abbrev pub with_data : List ℕ
  with_data = (header ++ x) ++ filled.filler

  header_long : head.header_len ≡ length header
  header_long = ap (λ (h : FileHead). h.header_len) filled.is_file.is_header.fields ∙ sym filled.is_file.is_header.header_length

  text : b ≡ (header ++ y) ++ filled.filler
  text = filled.text ∙ ap (λ (l : List ℕ). l ++ filled.filler) filled.is_file.text

  file_long : length (header ++ x) ≡ length (header ++ y)
  file_long = omega (arith, length-append header x, length-append header y, keeps.0)

  pub data_long : length with_data ≡ length b
  data_long = omega (
    arith,
    length-append (header ++ x) filled.filler,
    length-append (header ++ y) filled.filler,
    file_long,
    ap length text,
  )

  pub cell_changed : IsCell s p (Valid at head x) with_data
  cell_changed = (
    record {
      file = header ++ x;
      filler = filled.filler;
      text = refl;
      is_file = record {
        header = header;
        text = refl;
        is_header = filled.is_file.is_header;
        size = filled.is_file.size ∙ ap length filled.is_file.text ∙ sym file_long;
      };
      short = filled.short;
      multiple = ap (λ (n : ℕ). n % 8) data_long ∙ filled.multiple;
    },
    is.1,
    record {
      kind = is.2.kind;
      moves = is.2.moves;
      file_sum = sum_right (attribute_bits head.attributes) head.file_sum y x keeps ∙ is.2.file_sum;
    },
  )

-- ---- the cells of a body

module _ (stream : Loses) (stay : SumsStay stream) (keep : FileForm → Bool) (s : FileSystem) (p : Polarity) where
  -- data of a file that changes, or does not
  abbrev pub KeptLose : Bool → FileHead → Loses
  KeptLose true head y x = DataLose stream (holds_sections head.kind) y x
  KeptLose false head y x = x ≡ y

  -- the cell d is the cell c, with changed data if it is a file that `keep` selects
  abbrev pub CellLoses : CellForm → CellForm → Type 0
  CellLoses (Valid at head y) d =
      (x : List ℕ) × (d ≡ Valid at head x) × KeptLose (keep (record { offset = at; head = head; payload = y })) head y x
  CellLoses c d = d ≡ c

  -- o is front, a body and tail, and cells tile this body that are these cells after the data of the files changed
  pub record Changed (at : ℕ) (cs : List CellForm) (front body tail o : List ℕ) : Type 0 where
    pub new : List ℕ
    pub text : o ≡ front ++ (new ++ tail)
    pub long : length new ≡ length body
    pub cells : List CellForm
    pub tiles : Tiles s p at cells new
    pub lost : Pairwise CellLoses cs cells

  none_paired : (cs ds : List CellForm) → cs ≡ [] → Pairwise CellLoses cs ds → ds ≡ []
  none_paired [] [] e w = refl
  none_paired [] (d ∷ ds) e w = absurd w
  none_paired (c ∷ cs) ds e w = cc e

  -- one more cell
  push : (at : ℕ) (c d : CellForm) (cs : List CellForm) (front body tail o b x rest : List ℕ) → body ≡ b ++ rest → length x ≡ length b
      → IsCell s p d x → offset_of d ≡ at → (is_free d ≡ true → cs ≡ []) → CellLoses c d
      → Changed (at + length b) cs (front ++ x) rest tail o → Changed at (c ∷ cs) front body tail o
  push at c d cs front body tail o b x rest text long is place free lost r = record {
    new = x ++ r.new;
    text = r.text ∙ append_assoc front x (r.new ++ tail) ∙ ap (λ (l : List ℕ). front ++ l) (sym (append_assoc x r.new tail));
    long = omega (arith, length-append x r.new, long, r.long, ap length text, length-append b rest);
    cells = d ∷ r.cells;
    tiles = (
      x,
      r.new,
      refl,
      is,
      place,
      λ e. none_paired cs r.cells (free e) r.lost,
      subst (λ (n : ℕ). Tiles s p (at + n) r.cells r.new) (sym long) r.tiles,
    );
    lost = (lost, r.lost);
  }

  -- what the later cells need, after the bytes of this cell became x
  abbrev Later : ℕ → List CellForm → List ℕ → List ℕ → List ℕ → List ℕ → List ℕ → List ℕ → Type 0
  Later at cs front b x rest tail o =
      length (front ++ x) ≡ at + length b → EachFileLoses stream (filter keep (files_in cs)) ((front ++ x) ++ (rest ++ tail)) o
      → Changed (at + length b) cs (front ++ x) rest tail o

  joined : (front b rest tail body : List ℕ) → body ≡ b ++ rest → front ++ (body ++ tail) ≡ (front ++ b) ++ (rest ++ tail)
  joined front b rest tail body text =
      ap (λ (l : List ℕ). front ++ (l ++ tail)) text ∙ ap (λ (l : List ℕ). front ++ l) (append_assoc b rest tail)
      ∙ sym (append_assoc front b (rest ++ tail))

  -- a cell that stays the same
  cell_stays : (at : ℕ) (c : CellForm) (cs : List CellForm) (front body tail o b rest : List ℕ) → length front ≡ at → body ≡ b ++ rest
      → IsCell s p c b → offset_of c ≡ at → (is_free c ≡ true → cs ≡ []) → CellLoses c c
      → EachFileLoses stream (filter keep (files_in cs)) (front ++ (body ++ tail)) o → Later at cs front b b rest tail o
      → Changed at (c ∷ cs) front body tail o
  cell_stays at c cs front body tail o b rest long text is place free same lost later =
      push at c c cs front body tail o b b rest text refl is place free same
      (later (omega (arith, length-append front b, long))
      (subst (λ (l : List ℕ). EachFileLoses stream (filter keep (files_in cs)) l o) (joined front b rest tail body text) lost))

  -- a file
  file_changes : (at place : ℕ) (head : FileHead) (y : List ℕ) (cs : List CellForm) (front body tail o b rest : List ℕ) → length front ≡ at
      → body ≡ b ++ rest → IsCell s p (Valid place head y) b → place ≡ at → (t : Bool)
      → keep (record { offset = place; head = head; payload = y }) ≡ t
      → EachFileLoses stream (filter keep (files_in (Valid place head y ∷ cs))) (front ++ (body ++ tail)) o
      → ((x : List ℕ) → Later at cs front b x rest tail o) → Changed at (Valid place head y ∷ cs) front body tail o
  file_changes at place head y cs front body tail o b rest long text is here false unkept lost later =
      cell_stays at (Valid place head y) cs front body tail o b rest long text is here (λ e. cc e) (y, refl, (rw unkept refl)) (rw unkept at lost) (later b)
  file_changes at place head y cs front body tail o b rest long text is here true kept lost later =
      let these : EachFileLoses stream (record { offset = place; head = head; payload = y } ∷ filter keep (files_in cs)) (front ++ (body ++ tail)) o =
      rw kept at lost in
      let h : List ℕ = header s p place head y y b is (refl, refl) in
      let filler : List ℕ = is.0.filler in
      let cut : front ++ (body ++ tail) ≡ (front ++ h) ++ (y ++ (filler ++ (rest ++ tail))) =
      joined front b rest tail body text
      ∙ ap (λ (l : List ℕ). (front ++ l) ++ (rest ++ tail)) (is.0.text ∙ ap (λ (l : List ℕ). l ++ filler) is.0.is_file.text)
      ∙ seam front h y filler (rest ++ tail) in
      let before : length (front ++ h) ≡ place + head.header_len =
      omega (arith, length-append front h, long, here, header_long s p place head y y b is (refl, refl)) in
      let one = part_in (DataLose stream (holds_sections head.kind)) (front ++ h) y (filler ++ (rest ++ tail)) (front ++ (body ++ tail)) these.0
      (place + head.header_len) (length y) cut before refl these.1 in
      let keeps : KeepsSum y one.0 = data_sum stream stay (holds_sections head.kind) y one.0 one.1 in
      let x : List ℕ = (h ++ one.0) ++ filler in
      let more : EachFileLoses stream (filter keep (files_in cs)) ((front ++ x) ++ (rest ++ tail)) o =
      subst (λ (l : List ℕ). EachFileLoses stream (filter keep (files_in cs)) l o) (one.2 ∙ sym (seam front h one.0 filler (rest ++ tail))) these.2 in
      let same : length x ≡ length b = data_long s p place head y one.0 b is keeps in
      push at (Valid place head y) (Valid place head one.0) cs front body tail o b x rest text same
      (cell_changed s p place head y one.0 b is keeps) here (λ e. cc e) (one.0, refl, (rw kept one.1))
      (later x (omega (arith, length-append front x, long, same)) more)
    where
      seam : (a h y f z : List ℕ) → (a ++ ((h ++ y) ++ f)) ++ z ≡ (a ++ h) ++ (y ++ (f ++ z))
      seam a h y f z = simp append_assoc

  pub cells_changed : (at : ℕ) (cs : List CellForm) (front body tail o : List ℕ) → length front ≡ at → Tiles s p at cs body
      → EachFileLoses stream (filter keep (files_in cs)) (front ++ (body ++ tail)) o → Changed at cs front body tail o
  cells_changed at [] front body tail o long tiles same =
      record { new = body; text = same; long = refl; cells = []; tiles = tiles; lost = tt }
  cells_changed at (Valid place head y ∷ cs) front body tail o long (b, rest, text, is, here, free, more) lost =
      file_changes at place head y cs front body tail o b rest long text is here (keep (record { offset = place; head = head; payload = y })) refl lost
      (λ x l. cells_changed (at + length b) cs (front ++ x) rest tail o l more)
  cells_changed at (Pad place head y ∷ cs) front body tail o long (b, rest, text, is, here, free, more) lost =
      cell_stays at (Pad place head y) cs front body tail o b rest long text is here free refl lost
      (λ l. cells_changed (at + length b) cs (front ++ b) rest tail o l more)
  cells_changed at (Dead place n state ∷ cs) front body tail o long (b, rest, text, is, here, free, more) lost =
      cell_stays at (Dead place n state) cs front body tail o b rest long text is here free refl lost
      (λ l. cells_changed (at + length b) cs (front ++ b) rest tail o l more)
  cells_changed at (Stub place n ∷ cs) front body tail o long (b, rest, text, is, here, free, more) lost =
      cell_stays at (Stub place n) cs front body tail o b rest long text is here free refl lost
      (λ l. cells_changed (at + length b) cs (front ++ b) rest tail o l more)
  cells_changed at (Free place n ∷ cs) front body tail o long (b, rest, text, is, here, free, more) lost =
      cell_stays at (Free place n) cs front body tail o b rest long text is here free refl lost
      (λ l. cells_changed (at + length b) cs (front ++ b) rest tail o l more)
