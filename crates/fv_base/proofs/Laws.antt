-- The laws of this crate that crates above may cite. Each is passed on from the module that proves it. A lemma that is
-- not listed here is internal.

-- Fields and the numbers that they spell. A field is the same within a cut or a join. Lists of bytes that are cut,
-- joined or filled are lists of bytes. A number and its bytes determine each other. k bytes spell a number below
-- 256 ^ k. Equal joins are cut at equal lengths into equal parts.
pub use Rattle.fv_base.proofs.FieldLemmas.{take-take_le, field-take, field-append_front, field_is, le_bytes-le}
pub use Rattle.fv_base.proofs.FieldLemmas.{le-le_bytes, two_bytes, same_cut, none_at, bytes_behind, bytes_cons, bytes_take}
pub use Rattle.fv_base.proofs.FieldLemmas.{bytes_drop, bytes_append, bytes_le_bytes}
pub use Rattle.fv_base.proofs.NumberLaws.{le_below, field_below, bytes_front, bytes_back, bytes_replicate}
-- Two places are equal if neither of them is less. The bytes up to the later place are the bytes up to the earlier
-- place, and at least one more.
pub use Rattle.fv_base.proofs.FieldLemmas.{same_place, take_past, some_between}
-- Checks in their order. A table has a first fault exactly if not all of its checks hold, and it has only one. The
-- first fault of two joined tables is the first fault of the first table or, if that table has none, of the second. A
-- property of the faults of all checks is a property of each fault whose check fails. If all checks hold, none fails.
-- The first fault is the fault of a check that fails.
pub use Rattle.fv_base.proofs.CheckLemmas.{and_split, and_join, all_hold, none_faulty, first_is, first_front}
pub use Rattle.fv_base.proofs.CheckLemmas.{first_whole, first_among, not_first, fails_among, none_fails, verdict_ok, verdict_err, verdict_none}
pub use Rattle.fv_base.proofs.CheckLemmas.{any_fails, one_fault}
-- A result that passes a fault on is this fault. The second of two alternatives can be replaced by one that follows
-- from it, and if it is impossible, the first holds. A fault is out of memory, or it is not.
pub use Rattle.fv_base.proofs.FaultLemmas.{err_is, or_more, first_only, want_known}
-- Tests of numbers and of single bits, when they hold and when they do not. A flag is not both true and false.
pub use Rattle.fv_base.proofs.TestLemmas.{if_true, if_false, not_at_most, not_equal, one_bit, or_parts, or_both, up_is_not_down}
-- Bytes that are all one byte: how they are joined, cut and filled, and the test for them.
pub use Rattle.fv_base.proofs.ErasedLemmas.{all_append, all_front, all_behind, all-of_replicate, all_are-true, all-all_are}
-- Sums of the words of joined bytes.
pub use Rattle.fv_base.proofs.SumLemmas.{words_of-append, sum-words_of-append}
-- A list sink that was empty before a walk holds the bytes of the walk.
pub use Rattle.fv_base.proofs.SinkLemmas.{kept_whole}
-- A property of every item of a list is a property of the item at an index, of the item where the list is cut, of the
-- items after it, and of the items that a filter keeps. An item of a list is its first item or one after it.
pub use Rattle.fv_base.proofs.ListLaws.{at_index, in_middle, after_middle, all_filter, first_or_behind, one_behind}
-- Two cuts of one list are at the same item, or one is before the other.
pub use Rattle.fv_base.proofs.ListLaws.{Earlier, TwoCuts, two_cuts}
-- The items of a list from an index on; the items of a mapped list up to an index and after it.
pub use Rattle.fv_base.proofs.ListLaws.{item_at, more_items, seam_items}
-- A filter by a note of each item keeps the same items as a filter by a test with the same results. A list in the place
-- of another of the same length.
pub use Rattle.fv_base.proofs.ListLaws.{kept_noted, in_place}
-- Names of std and definitions of this crate that several proofs use, so that a proof imports them in a line or two.
-- The operators of std come from std's Common.
pub use Rattle.std.proofs.Common.{Bool, Err, IfErr, IfOk, IsTrue, List, None, Ok, OnOk, Option, Result, Some, ap, append-nil, append_assoc, arith}
pub use Rattle.std.proofs.Common.{codes, drop, drop-drop, drop-set-lt, drop_at, eq-eqb, eqb-true, ext_get_or, false, get_or-drop, get_or-set_other}
pub use Rattle.std.proofs.Common.{get_or-set_same, get_or-take, inl, inr, is_some, le-leb, le-ltb, length, length-append, length-drop, length-set}
pub use Rattle.std.proofs.Common.{length-take-le, lt-ltb, ltb-false, ltb-true, map, nat_le, nat_lt, ne_eqb, not, option_copied, option_map, refl}
pub use Rattle.std.proofs.Common.{replicate, slice_get, slice_index, slice_set, subst, suc, sym, take, take-append-drop, take_all, take_at, true}
pub use Rattle.std.proofs.Common.{true≢false, zero, ◌∙◌}
pub use Rattle.std.proofs.KnownBytes.{Keeps-refl}
pub use Rattle.std.proofs.Math.ListN.{drop_of_length-le, get_or, get_or-append, set}
pub use Rattle.std.proofs.Math.Seq.{drop-append_seam, take-add, take-append-add, take-append_seam}
pub use Rattle.std.proofs.lemmas.Bool.{cases_lt, eqb-false, not-true}
pub use Rattle.std.proofs.lemmas.Bool.Decides.{Decides-eqb, nat_tests, not_from_Decides}
pub use Rattle.std.proofs.lemmas.Grind.{common_steps, flat_map-append}
pub use Rattle.std.proofs.lemmas.Iterator.Consumers.{YieldsList-from_filter, YieldsList-from_first, nth_from_yields_List}
pub use Rattle.std.proofs.lemmas.List.{drop-take, drop_all, drop_more, get_or-map, get_or_default, length-map, length-replicate, map-append, map_more}
pub use Rattle.std.proofs.lemmas.List.{map_push, take-append-le, take-set-le, take_more, take_more_set}
pub use Rattle.std.proofs.lemmas.List.Elements.{All-contains, All-from_recursion, All-get_or, All-head, All-map, All-tail, All-weaker}
pub use Rattle.std.proofs.lemmas.List.Elements.{recursion_from_All}
pub use Rattle.std.proofs.lemmas.List.Folds.{Any-from_list_any, list_any_at}
pub use Rattle.std.proofs.lemmas.List.Sums.{sum_by-append, sum_by-cons, sum_by_push}
pub use Rattle.std.proofs.lemmas.Nat.Bits.{and_pow, bit_at-lt}
pub use Rattle.std.proofs.lemmas.Option.{slice_get_past}
pub use Rattle.std.proofs.lemmas.Result.{IfErr-weaker, IfOk-weaker, on_ok_weaker}
pub use Rattle.std.proofs.lemmas.Simd.{map-map}
pub use Rattle.std.proofs.lemmas.Slice.Eq.{bytes_eq-Decides}
pub use Rattle.std.specs.Bool.{Decides, beq}
pub use Rattle.std.specs.Char.{digit_value}
pub use Rattle.std.specs.Cmp.{booleans_Decides}
pub use Rattle.std.specs.Int.{bit_at}
pub use Rattle.std.specs.Io.KnownBytes.{Appends}
pub use Rattle.std.specs.Iterator.{SkipsThenYields}
pub use Rattle.std.specs.List.{All, AllByRecursion, AllWithin, Contains, concat, cons_option, filter, flat_map, list_any, position, position_or_len}
pub use Rattle.std.specs.List.{range_with_len}
pub use Rattle.std.specs.Option.{option_and_then, option_or, unwrap_or}
pub use Rattle.std.specs.Ordering.{is_lt}
pub use Rattle.std.specs.Str.{bytes_eq}
pub use Rattle.std.specs.Str.Parse.{IsNumeral, digits_value, without_leading_plus}
pub use Rattle.fv_base.specs.Words.{AllAre, AllHold, Any, Check, Fails, First, IsBytes, IsFirstFault, ReadsWhole, WalkLaws, Which, WriteStops}
pub use Rattle.fv_base.specs.Words.{alignment_of, alignments, bytes_of, check, data_limit, depth_limit, erased_byte, ext_limit, fault_number, field}
pub use Rattle.fv_base.specs.Words.{has_erred, header_limit, inner_of, le, le_at, le_bytes, out_of_memory, outer_fault, up_to_8, volume_limit}
pub use Rattle.fv_base.specs.Words.{words_of}
unfoldable pub use Rattle.fv_base.specs.Words.{all_are, guid_text}
