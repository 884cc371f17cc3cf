-- Proves that the FvName of a volume is at the offset in ExtHeaderOffset (`name_there`; PI specification, volume 3,
-- section 3.2.1.2).
use Rattle.std.proofs.Common.{◌≡◌, ◌≢◌, ◌≤◌, ◌∙◌, ◌+◌, ℕ, List, ◌++◌, ap, append_assoc, arith, length, length-append, sym}
use Rattle.std.specs.Prelude.{Option, None, Some}
use Rattle.std.proofs.lemmas.List.{drop_at, take_at}
use Rattle.fv_base.specs.Words.{bytes_of, field, le_at}
use Rattle.fv_head.specs.Words.{BeginsVolume, Extension, HasExt, HeadFields}
use Rattle.fv_head.specs.declared.extent.Extent.{Extent}
use Rattle.fv_c.specs.ReportedHeaders.{volume_name}

-- if ExtHeaderOffset is not 0, the volume has 16 bytes at this offset, and they are the name
pub name_there : (h : HeadFields) (e : Extent) (b : List ℕ) (n : ℕ) → BeginsVolume h e b → n ≡ le_at 52 2 b → n ≢ 0
    → (n + 16 ≤ length b) × (field n 16 b ≡ volume_name h.ext)
name_there h e b n front is some = go h.ext front.ext where
  go : (x : Option Extension) → HasExt x e b → (n + 16 ≤ length b) × (field n 16 b ≡ volume_name x)
  go None (none, first) = absurd (some (is ∙ none))
  go (Some x) (before, part, behind, text, at, low, high, ext, first) =
      let name : List ℕ = bytes_of x.name in
      let more : List ℕ = (ext.head ++ ext.rest) ++ behind in
      let joined : part ++ behind ≡ name ++ more = ap (λ l. l ++ behind) ext.text ∙ append_assoc name (ext.head ++ ext.rest) behind in
      let split : b ≡ before ++ (name ++ more) = text ∙ ap (λ l. before ++ l) joined in
      let long : length before ≡ n = at ∙ sym is in (
        rw split (simp length-append (omega (arith, ext.name_length))),
        rw (split, drop_at before (name ++ more) n long) (take_at name more 16 ext.name_length),
      )
