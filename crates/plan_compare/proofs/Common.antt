-- The names that most proofs here cite, passed on from one place. Declares nothing.
pub use Rattle.csv.specs.Records.{fields_of, partial_of}
pub use Rattle.csv.specs.Writing.{default_writer, row_text}
unfoldable pub use Rattle.csv.specs.Writing.{escaped, fields_text, is_blank}
pub use Rattle.exact_num.proofs.Integers.{*ℤ-≤ℤ, ≤ℤ_cancel}
pub use Rattle.exact_num.proofs.RangeLaws.{InRange-from_test, in_range-yes}
pub use Rattle.exact_num.proofs.Ring.{products, ring}
pub use Rattle.exact_num.specs.Range.{InRange}
unfoldable pub use Rattle.exact_num.specs.Range.{in_range}
pub use Rattle.exact_num.specs.Rational.{Rational, pair, whole}
unfoldable pub use Rattle.exact_num.specs.Rational.{lowest, order_of}
pub use Rattle.exact_num.specs.Value.{value_of}
pub use Rattle.exact_num.specs.declared.fraction.Frac.{Frac}
pub use Rattle.model_sets.specs.Members.{SetLists, members}
pub use Rattle.model_sets.specs.Names.{year}
pub use Rattle.plan_compare.specs.Amounts.{difference, number_or, size, sum_from, sum_of_two}
pub use Rattle.plan_compare.specs.Changes.{change_of_first, change_of_second, changes, is_new, listed, told_where, value_there}
pub use Rattle.plan_compare.specs.Comparisons.{change_record, compared_kinds, differing, kind_text, members_text, only_text, same_count, section_text}
pub use Rattle.plan_compare.specs.Counterparts.{counterpart, counts}
pub use Rattle.plan_compare.specs.GreatestFirst.{Falls, greatest_first, inserted, of_size, size_of_change}
pub use Rattle.plan_compare.specs.Heads.{at_least, at_most, head_text}
pub use Rattle.plan_compare.specs.Members.{compared_sets, member_records, missing_records}
pub use Rattle.plan_compare.specs.Scenarios.{Side, side_of}
pub use Rattle.plan_compare.specs.Sums.{differs_in, is_first, is_new_sum, is_told_in, shown_in, sum_of, sum_of_first, sum_of_second, sums}
pub use Rattle.plan_compare.specs.declared.change.Change.{Change}
pub use Rattle.plan_files.specs.Files.{Fields}
pub use Rattle.plan_files.specs.Texts.{records_text}
pub use Rattle.row_core.specs.NameTexts.{member}
pub use Rattle.row_core.specs.declared.Var.{Var}
pub use Rattle.scaled_decimals.specs.PrintedPlaces.{places_text}
unfoldable pub use Rattle.scaled_decimals.specs.PrintedPlaces.{millionths, millionths_text}
pub use Rattle.std.proofs.Common.{Bool, List, None, Option, Some, [], ap, append_assoc, ap₂, arith, cond, drop, false, filter, get_or, if◌then◌else◌, length, map, neg_ℤ, negsuc, not, of_z, pos, refl, rules, subst, suc, sym, take, to_z, true, ℕ, ℤ, ◌&&◌, ◌*ℤ◌, ◌++◌, ◌+ℤ◌, ◌+◌, ◌-ℤ◌, ◌-◌, ◌<ℤ◌, ◌<◌, ◌^◌, ◌||◌, ◌∙◌, ◌∷◌, ◌≡◌, ◌≤ℤ◌, ◌≤◌}
pub use Rattle.std.proofs.lemmas.Bool.Decides.{nat_tests}
pub use Rattle.std.proofs.lemmas.Int.{ints, to_z-of_z}
pub use Rattle.std.proofs.lemmas.List.{append-nil, at_drop_all, drop_more, map-append}
pub use Rattle.std.proofs.lemmas.Result.{on_ok_weaker}
pub use Rattle.std.specs.Int.{w128}
pub use Rattle.std.specs.List.{AllByRecursion, flat_map, list_any, range_with_len}
pub use Rattle.std.specs.Prelude.{FitsSigned, IsTrue, codes, nat_eq, nat_le, unsigned_abs, ◌↔◌}
pub use Rattle.value_millionths.proofs.OutwardLaws.{both_near, down-below, fitting-is, million, million_nonzero, up-above}
