-- Everything that is written for a volume is a list of bytes.
use Rattle.std.proofs.Common.{◌≡◌, ◌-◌, ◌+◌, ℕ, [], ◌∷◌, ◌++◌, if◌then◌else◌, ◌==◌, zero, suc, Bool, true, false, List, sym, subst}
use Rattle.fv_base.proofs.Laws.{common_steps, arith, Option, None, Some, AllByRecursion, bytes_of, IsBytes, up_to_8, bytes_append, bytes_back}
use Rattle.fv_base.proofs.Laws.{bytes_front, bytes_le_bytes, none_at}
use Rattle.fv_base.specs.declared.flash.FileSystem.{FileSystem}
use Rattle.fv_base.specs.declared.flash.Polarity.{Polarity}
use Rattle.fv_file.specs.Words.{pad_head_of}
use Rattle.fv_head.specs.Words.{Extension, SplitsEntries, kept_payload, is_used_size, zero_used_size, IsReadExt, IfRead, HeadFields, first_edge}
use Rattle.fv_head.specs.Words.{entry_bytes, entries_bytes, ext_len, ext_spelled, polarity_of}
use Rattle.fv_head.proofs.Laws.{canonical_is}
use Rattle.fv_canon.specs.Words.{StoredFile, stored_len, pads, long_pad, gap_bytes, ext_pad, used_size}
use Rattle.fv_canon.specs.inner.ImageOf.{files_bytes, volume_bytes}
use Rattle.fv_canon.proofs.CellLaws.{Storable, bytes_stored, bytes_pad_head, bytes_erased, bytes_pad}
use Rattle.fv_canon.proofs.PlacedBytesLaws.{Writable}

bytes_either : (q : Bool) (a b : List ℕ) → IsBytes a → IsBytes b → IsBytes (if q then a else b)
bytes_either true a b h k = h
bytes_either false a b h k = k

-- ---- gaps and files

bytes_pads : (p : Polarity) (n gap : ℕ) → IsBytes (pads p n gap)
bytes_pads p zero gap = bytes_pad p gap
bytes_pads p (suc n) gap = grind (arith, common_steps, bytes_either, bytes_pad, bytes_append, bytes_pads p n (gap - long_pad)) steps 400000

bytes_gap : (p : Polarity) (gap : ℕ) → IsBytes (gap_bytes p gap)
unfolding gap_bytes
bytes_gap p gap = bytes_either (gap == 0) [] (pads p gap gap) none_at (bytes_pads p gap gap)

bytes_files : (system : FileSystem) (p : Polarity) (total e : ℕ) (fs : List StoredFile) (ss : List ℕ) → AllByRecursion (Storable system) fs
    → IsBytes (files_bytes p total e fs ss)
bytes_files system p total e (f ∷ fs) (s ∷ ss) all =
    let x : ℕ = s + stored_len f in
    search (bytes_append, bytes_gap, bytes_stored system p f all.0, bytes_erased, bytes_files system p total (up_to_8 x) fs ss all.1)
bytes_files system p total e fs ss all = bytes_erased p (total - e)

-- ---- the extended header

-- an entry that was read is written as bytes, with any used size
bytes_entry : (used : ℕ) (e : ℕ × List ℕ) (payload : List ℕ) → IsBytes payload → e.1 ≡ kept_payload e.0 payload
    → IsBytes (entry_bytes used e)
bytes_entry used e payload small kept =
    let small = bytes_either (is_used_size e.0 payload) zero_used_size payload (bytes_le_bytes 4 0) small in
    search (bytes_append, bytes_le_bytes, bytes_either, subst IsBytes (sym kept) small)

bytes_entries : (used : ℕ) (es : List (ℕ × List ℕ)) (tail b : List ℕ) → IsBytes b → SplitsEntries es tail b
    → IsBytes (entries_bytes used es) × IsBytes tail
bytes_entries used [] tail b small is = (none_at, subst IsBytes is.0 small)
bytes_entries used (e ∷ es) tail b small (head, payload, rest, text, four, size, kind, kept, more) =
    let behind : IsBytes (payload ++ rest) = bytes_back head (payload ++ rest) (subst IsBytes text small) in
    let later = bytes_entries used es tail rest (bytes_back payload rest behind) more in
    (bytes_append (entry_bytes used e) (entries_bytes used es) (bytes_entry used e payload (bytes_front payload rest behind) kept) later.0, later.1)

bytes_ext : (x : Extension) (used : ℕ) → IsReadExt x → IsBytes (ext_spelled x used)
unfolding ext_spelled
bytes_ext x used (b, small, is) =
    let name : List ℕ = bytes_of x.name in
    let items : IsBytes (name ++ (is.head ++ is.rest)) = subst IsBytes is.text small in
    let entries = bytes_entries used x.entries x.tail is.rest (bytes_back is.head is.rest (bytes_back name (is.head ++ is.rest) items)) is.entries in
    search (bytes_append, bytes_le_bytes, bytes_front name (is.head ++ is.rest) items, entries.0, entries.1)

bytes_ext_pad : (p : Polarity) (x : Option Extension) (used : ℕ) → IfRead x → IsBytes (ext_pad p x used)
unfolding ext_pad
bytes_ext_pad p None used read = none_at
bytes_ext_pad p (Some x) used read =
    bytes_append (pad_head_of (24 + ext_len x) p) (ext_spelled x used) (bytes_pad_head (24 + ext_len x) p) (bytes_ext x used read)

-- ---- the volume

pub bytes_volume : (h : HeadFields) (fs : List StoredFile) (ss : List ℕ) → Writable h fs ss → IsBytes (volume_bytes h fs ss)
bytes_volume h fs ss k =
    let first : ℕ = first_edge h h.ext in
    let pad = bytes_ext_pad (polarity_of h.attributes) h.ext (used_size first fs ss) k.ext in
    let files = bytes_files h.file_system (polarity_of h.attributes) h.length first fs ss k.files in
    search (bytes_append, (canonical_is h k.read).head.bytes, pad, bytes_erased, files)
