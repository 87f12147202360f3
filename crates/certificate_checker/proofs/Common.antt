-- The names that most proofs here cite, passed on from one place. Declares nothing.
pub use Rattle.certificate_checker.specs.Certificates.{AdmitsNone, AreMultipliersOver, AreSigned, AreWithin, BoundsAll, CostsLess, Descends, IsSigned, IsWithin, Proves, Refutes, bound_of}
pub use Rattle.certificate_checker.specs.ColumnSums.{AreColumnSums, column_partial, continued, entries_at, seen, sum_at, variable_at, with_term}
pub use Rattle.certificate_checker.specs.Conditions.{AllPass, Condition, FailsFor, IsWideAt, first_failing, formed_at, steps}
pub use Rattle.certificate_checker.specs.CostNumbers.{IsCost, number_of}
pub use Rattle.certificate_checker.specs.Costs.{cost_entries, cost_of, cost_value, model_cost, no_cost, total, total_formed}
pub use Rattle.certificate_checker.specs.Denominators.{AreOverSome, HasPositiveBottom}
pub use Rattle.certificate_checker.specs.Gaps.{Within, gap_condition, gap_formed, part_of}
pub use Rattle.certificate_checker.specs.Halts.{IsHalt, halted, verdict_of}
pub use Rattle.certificate_checker.specs.MultiplierChecks.{bound_condition, bound_conditions, bound_passes, bound_value, column_condition, infeasible_conditions, is_signed, is_within, multiplier_condition, multiplier_conditions, right_sides}
pub use Rattle.certificate_checker.specs.PlanChecks.{absolute, cost_condition, cost_passes, direction_conditions, plan_conditions, right_of, row_condition, sign_condition, value_conditions}
pub use Rattle.certificate_checker.specs.Plans.{AllStand, AreValuesOver, HaveRightSigns, IsRight, MeetsAll}
pub use Rattle.certificate_checker.specs.Reasons.{Reason, below_zero, column_off, cost_not_negative, gap_passed, row_missed, sum_not_positive, wrongly_signed}
pub use Rattle.certificate_checker.specs.Sums.{HasVariablesOf, column_sum, sum_over, weighted}
pub use Rattle.certificate_checker.specs.Verdicts.{IfYes, IsVerdict, OnNo, OnYes}
pub use Rattle.certificate_checker.specs.declared.multipliers.Aim.{Aim}
pub use Rattle.certificate_checker.specs.declared.values.Subject.{Subject}
pub use Rattle.certificate_checker.specs.declared.values.Subject.TheVariants.{Direction, Plan}
pub use Rattle.certificate_checker.specs.declared.verdicts.Halt.{Halt}
pub use Rattle.certificate_checker.specs.declared.verdicts.Halt.TheVariants.{No}
pub use Rattle.certificate_checker.specs.declared.verdicts.Verdict.{Verdict}
pub use Rattle.exact_num.proofs.Integers.{*ℤ-≤ℤ, *ℤ_nonnegative, *ℤ_pos, pos-unsigned_abs, ≤ℤ-*ℤ, ≤ℤ_cancel, ≤ℤ_or_<ℤ}
pub use Rattle.exact_num.proofs.OrderLaws.{int_cmp-equal, int_cmp-mul}
pub use Rattle.exact_num.proofs.RangeLaws.{back_in_range, is_ok-false}
pub use Rattle.exact_num.proofs.Ring.{*ℤ-zero, *ℤ_comm, +ℤ-zero, neg_ℤ-*ℤ, one-*ℤ, products, ring, zero-*ℤ, zero-+ℤ}
pub use Rattle.exact_num.proofs.StepLaws.{all_fit-append, all_fit-nil, first_wide-append, first_wide-fits, first_wide-nil, first_wide-stops}
pub use Rattle.exact_num.specs.Formed.{product_formed}
unfoldable pub use Rattle.exact_num.specs.Formed.{difference_formed}
pub use Rattle.exact_num.specs.Range.{InRange}
unfoldable pub use Rattle.exact_num.specs.Range.{all_fit, in_range}
pub use Rattle.exact_num.specs.Rational.{Rational, pair, whole}
unfoldable pub use Rattle.exact_num.specs.Rational.{lowest, minus, order_of, plus, times}
pub use Rattle.exact_num.specs.Steps.{Step}
unfoldable pub use Rattle.exact_num.specs.Steps.{first_wide}
pub use Rattle.exact_num.specs.Value.{value_of}
pub use Rattle.exact_num.specs.declared.fraction.Frac.{Frac}
pub use Rattle.row_core.proofs.AscendingLaws.{Less-from_test, ascends-first, ascends-skip, ascends-tail, both_passed}
pub use Rattle.row_core.proofs.CombinedLaws.{all_fit-from_range, rhs_fits, row_fits}
pub use Rattle.row_core.proofs.DivisionLaws.{is_zero-fact, nonzero-test}
pub use Rattle.row_core.proofs.EvaluatedLaws.{evaluated-IsOver, sum-IsOver, term-IsOver}
pub use Rattle.row_core.proofs.MeaningLaws.{Stands-times, row_sum-alone}
pub use Rattle.row_core.proofs.Orders.{row_name_cmp_exact, row_name_cmp_total, var_cmp_exact, var_cmp_total}
pub use Rattle.row_core.proofs.PlanValueLaws.{number_at-fits, number_at-value, number_or_zero}
pub use Rattle.row_core.proofs.SumLaws.{IsOver-multiplied, IsOver-own, IsOver-plus, IsOver-ratio, IsOver-times, IsOver-whole, IsOver-zero}
pub use Rattle.row_core.specs.Columns.{column_of, row_in_column}
pub use Rattle.row_core.specs.Evaluated.{AreOver, evaluated, evaluated_formed, sum_from, sum_from_formed, term_formed}
pub use Rattle.row_core.specs.Kinds.{Kind, kind_at, kind_is_free, kinds, no_kind}
pub use Rattle.row_core.specs.Numbers.{all_in_range, ascends, before_first, is_zero, numbers_of, variables_of}
pub use Rattle.row_core.specs.Order.{row_name_cmp, var_cmp}
pub use Rattle.row_core.specs.Plans.{or_zero, value_in, valued}
pub use Rattle.row_core.specs.Rows.{number_at, row_sum}
pub use Rattle.row_core.specs.Statements.{Stands, stands}
pub use Rattle.row_core.specs.Values.{IsOver, alone}
pub use Rattle.row_core.specs.declared.Row.{Row}
pub use Rattle.row_core.specs.declared.RowName.{RowName}
pub use Rattle.row_core.specs.declared.Sense.{Sense}
pub use Rattle.row_core.specs.declared.Sense.TheVariants.{Equal, Least, Most}
pub use Rattle.row_core.specs.declared.Var.{Var}
pub use Rattle.row_core.specs.declared.kind_numbers.TheConstants.{KIND_COUNT, NEW_CAPACITY, RATE_OF_ACTIVITY, TOTAL_DISCOUNTED_COST, TRADE}
pub use Rattle.row_core.specs.declared.place.Place.{Place}
pub use Rattle.row_core.specs.declared.place.Place.TheVariants.{Check, Column, SumBound, SumCost, SumGap}
pub use Rattle.std.proofs.Common.{Bool, List, None, Option, Some, [], add-one, ap, ap₂, arith, drop, false, filter, get_or, if◌then◌else◌, inl, inr, length, map, neg_ℤ, negsuc, of_z, pos, refl, replicate, set, subst, suc, sym, to_z, true, zero, ℕ, ℤ, ◌&&◌, ◌*ℤ◌, ◌*◌, ◌++◌, ◌+ℤ◌, ◌+◌, ◌-ℤ◌, ◌-◌, ◌<◌, ◌^◌, ◌||◌, ◌∙◌, ◌∷◌, ◌≡◌, ◌≢◌, ◌≤◌, ◌⊎◌}
pub use Rattle.std.proofs.lemmas.Bool.{cases_lt, cases_order}
pub use Rattle.std.proofs.lemmas.Int.{ints}
pub use Rattle.std.proofs.lemmas.List.{at_drop_all, drop_more, get_or-replicate, get_or-set_other, get_or-set_same, get_or_default, length-replicate, replicate_more, with_items_is}
pub use Rattle.std.proofs.lemmas.Result.{IfErr-weaker, IfOk-weaker, err_from_is_err_and, on_ok_weaker}
pub use Rattle.std.specs.Int.{w128}
pub use Rattle.std.specs.Int.Signed.{le_z, lt_z}
pub use Rattle.std.specs.List.{AllByRecursion, flat_map}
pub use Rattle.std.specs.List.Sorted.{IsNonDecreasingBy, IsSortedBy}
pub use Rattle.std.specs.Ordering.{MatchOrdering, int_cmp, is_eq, is_le, is_lt, nat_cmp, ordering_index, ordering_reverse}
pub use Rattle.std.specs.Prelude.{Contains, Err, IfErr, IfOk, Ok, OnOk, Result, int_le, int_lt, nat_le, unsigned_abs, ◌<ℤ◌, ◌↔◌, ◌≤ℤ◌}
pub use Rattle.std.specs.declared.cmp.Ordering.{Ordering}
