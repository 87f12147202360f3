-- The names that most proofs here cite, passed on from one place. Declares nothing.
pub use Rattle.exact_num.proofs.GcdLaws.{dvd-gcd_of, gcd_of-dvd_left, gcd_of-dvd_right, gcd_of-one, gcd_of-zero, gcd_of_pos_left, one-gcd_of}
pub use Rattle.exact_num.proofs.Integers.{*ℤ-≤ℤ, *ℤ_cancel, *ℤ_nonzero, *ℤ_pos, <ℤ_cancel, int_div-mul, nonzero_of_pos, pos-unsigned_abs, unsigned_abs-int_div, unsigned_abs-zero, unsigned_abs_pos, ≤ℤ_cancel}
pub use Rattle.exact_num.proofs.RangeLaws.{IfOk-equal, InRange-from_test, InRange-le, back_in_range, in_range-yes, is_ok-false, true-in_range}
pub use Rattle.exact_num.proofs.RationalLaws.{common_pos, lowest-IsLowest, lowest-cross, minus-is_plus}
pub use Rattle.exact_num.proofs.Ring.{*ℤ-+ℤ, *ℤ-one, *ℤ-zero, *ℤ_assoc, *ℤ_comm, *ℤ_left_comm, +ℤ-*ℤ, +ℤ-zero, +ℤ_left_comm, neg_ℤ-*ℤ, one-*ℤ, products, ring, zero-*ℤ, zero-+ℤ}
pub use Rattle.exact_num.proofs.StepLaws.{all_fit-append, all_fit-cons, all_fit-nil}
pub use Rattle.exact_num.specs.Formed.{common, difference_formed, product_formed}
unfoldable pub use Rattle.exact_num.specs.Formed.{sum_formed}
unfoldable pub use Rattle.exact_num.specs.Gcd.{gcd_of, gcd_within}
pub use Rattle.exact_num.specs.Range.{InRange}
unfoldable pub use Rattle.exact_num.specs.Range.{all_fit, in_range}
pub use Rattle.exact_num.specs.Rational.{Rational, minus, negated, pair, whole}
unfoldable pub use Rattle.exact_num.specs.Rational.{lowest, plus, times}
pub use Rattle.exact_num.specs.Value.{value_of}
pub use Rattle.exact_num.specs.declared.fraction.Frac.{Frac}
pub use Rattle.row_core.specs.Amounts.{Amount, Billionths, Factor, Negative, Product, Total, Whole, amount_formed, total_from, total_over, value_of_amount}
pub use Rattle.row_core.specs.Calculated.{Side, can_be_written, known, no_terms, number_of, only_if, terms_with, with_amounts}
unfoldable pub use Rattle.row_core.specs.Calculated.{negative_of, product_of, total_of, with_number}
pub use Rattle.row_core.specs.Combined.{Beside, all_less_formed, all_right_only, beside, combined, combined_formed, combined_scale, def_factor, divisor_by, entry_unless_zero, first_beside, left_only, less, less_formed, lessened, right_only, row_factor, scale_by, undivided_entries, undivided_formed, undivided_right}
pub use Rattle.row_core.specs.Contents.{RowContents, contents_of}
pub use Rattle.row_core.specs.EquationTerms.{EquationTerms, IsWritten, coefficients_formed, coefficients_of, each, equation_formed, right_of, terms_of}
pub use Rattle.row_core.specs.Equations.{Equation, IsEquation, equation_has, equations, no_equation, word_of_equation}
pub use Rattle.row_core.specs.Evaluated.{AreOver, evaluated, evaluated_formed, sum_from, sum_from_formed, term_formed}
pub use Rattle.row_core.specs.Forms.{Form, form_of}
pub use Rattle.row_core.specs.Kinds.{IsKind, Kind, kind_has, kind_is_free, kinds, no_kind, word_of_kind}
pub use Rattle.row_core.specs.LookUps.{value_at}
pub use Rattle.row_core.specs.NameTexts.{Extends, member}
pub use Rattle.row_core.specs.Names.{accumulated_new_capacity, caa1, caa2, new_capacity, total_capacity_annual}
pub use Rattle.row_core.specs.Numbers.{DividesAll, IsLowest, all_in_range, ascends, before_first, is_zero, keys_of, none_zero, numbers_of, variables_of}
pub use Rattle.row_core.specs.Order.{index_cmp, row_name_cmp, var_cmp}
pub use Rattle.row_core.specs.Plans.{or_zero, value_in, valued}
pub use Rattle.row_core.specs.Repeated.{GivesTerms, GivesTermsWhere, IsTerm, IsTermWhere}
pub use Rattle.row_core.specs.Rows.{SameValues, number_at, row_sum, statement_of}
pub use Rattle.row_core.specs.Scaled.{IsCombined, IsMade, IsScaled, SaysTheSameUnder}
pub use Rattle.row_core.specs.Sources.{AreInOrder, has_entry_of, has_kind, is_of_equation, rows_of_equation}
pub use Rattle.row_core.specs.Statements.{Holds, Stands, Statement, holds, stands}
pub use Rattle.row_core.specs.Stops.{IsStop}
pub use Rattle.row_core.specs.Tables.{described_equation, described_kind}
pub use Rattle.row_core.specs.TermPlaces.{AreBefore, BelongsAt, IsThere}
pub use Rattle.row_core.specs.TermSteps.{entry_over, widened_by_term}
pub use Rattle.row_core.specs.TermViews.{seen}
pub use Rattle.row_core.specs.Terms.{gathered, gathered_formed, gathered_onto, with_term}
pub use Rattle.row_core.specs.Values.{HasSigns, IsMultiple, IsOver, IsSumOver, SaysTheSame, alone}
pub use Rattle.row_core.specs.Words.{IsPlain, is_plain}
pub use Rattle.row_core.specs.Written.{cleared_entries, cleared_right, common_denominator, common_divisor, denominators, entries_divided, entries_over, kept, numerator_over, row_divisor, widened, widened_by_all, widened_by_each, written_divisor, written_entries, written_formed, written_right}
pub use Rattle.row_core.specs.declared.Row.{Row}
pub use Rattle.row_core.specs.declared.RowName.{RowName}
pub use Rattle.row_core.specs.declared.Sense.{Sense}
pub use Rattle.row_core.specs.declared.Var.{Var}
pub use Rattle.row_core.specs.declared.place.Stopped.{Stopped}
pub use Rattle.row_core.specs.declared.terms.Term.{Term}
pub use Rattle.std.proofs.Common.{Bool, List, None, Option, Some, [], add-one, ap, append-nil, append_assoc, ap₂, arith, cond, drop, eq-eqb, eqb-true, false, filter, get_or, if◌then◌else◌, inl, inr, length, ltb, map, nat_eq, nat_lt, neg_ℤ, negsuc, not, of_z, pos, refl, replicate, rules, set, subst, suc, sym, take, to_z, true, zero, zero-add, ℕ, ℤ, ◌&&◌, ◌*ℤ◌, ◌*◌, ◌++◌, ◌+ℤ◌, ◌+◌, ◌-ℤ◌, ◌-◌, ◌<◌, ◌^◌, ◌||◌, ◌∙◌, ◌∷◌, ◌≡◌, ◌≢◌, ◌≤◌, ◌⊎◌}
pub use Rattle.std.proofs.Math.Nat.{dvd-mul_left, eq-or-lt_of_le, eq-zero_of_zero-dvd, mul-dvd-mul_left, mul-dvd-mul_right, mul-le-mul_right, mul_comm, one-dvd, zero-lt-suc}
pub use Rattle.std.proofs.lemmas.Bool.{cases_lt, lt-ltb}
pub use Rattle.std.proofs.lemmas.Bool.Decides.{Decides-int_eq, nat_tests}
pub use Rattle.std.proofs.lemmas.Int.{by_lt_z, ints, unsigned_abs-mul}
pub use Rattle.std.proofs.lemmas.List.{at_drop_all, drop_more, get_or-map, get_or-replicate, get_or_default, length-map, length-take-le, map-append, map-set, take_more}
pub use Rattle.std.proofs.lemmas.List.Sorted.{answers_always, searchable_from_sorted}
pub use Rattle.std.proofs.lemmas.Nat.Gcd.{dvd-zero, dvd_antisymm, dvd_of_mod-eq-zero, dvd_refl, dvd_trans, le_of_dvd}
pub use Rattle.std.proofs.lemmas.Result.{IfOk-weaker, MatchResult-weaker, err_from_is_err_and, on_ok_weaker}
pub use Rattle.std.specs.Cmp.{IsTotalOrder}
pub use Rattle.std.specs.Cmp.Derive.{both_true}
pub use Rattle.std.specs.Int.{w128, ◌∣◌}
pub use Rattle.std.specs.List.{AllByRecursion, AllPairs, enumerate_from, flat_map, insert, join_with_byte, list_all, position_or_len, range_with_len}
pub use Rattle.std.specs.Ordering.{int_cmp, is_eq, is_lt, nat_cmp, ordering_index, ordering_reverse, ordering_then}
pub use Rattle.std.specs.Prelude.{Contains, Err, IfErr, IfOk, Ok, OnErr, OnOk, Result, int_div, int_le, slice_index_or, unsigned_abs, ⊤, ◌<ℤ◌, ◌==◌, ◌↔◌, ◌≤ℤ◌}
pub use Rattle.std.specs.declared.cmp.Ordering.{Ordering}
pub use Rattle.std.specs.declared.cmp.Ordering.TheVariants.{Equal, Greater, Less}
pub use lib.Pointwise.{pointwise}
