-- The names that most proofs here cite, passed on from one place. Declares nothing.
pub use Rattle.certificate_checker.proofs.NamedSums.{name-itself, same-name}
pub use Rattle.command_answers.proofs.CheckedRows.{costs-same, feasible-from_rows, rows-from_feasible, signs-each, vars-are}
pub use Rattle.command_answers.proofs.Common.{AllByRecursion-append, AllByRecursion-weaker, Feasible, IsBookOf, IsListedBook, IsMadeBook, MeetsEach, all_variables, cases_Bool, cost, definers, false_from_ne_true, filter, ◌-ℤ◌}
pub use Rattle.command_answers.proofs.ListLines.{each-at, lines-next}
pub use Rattle.command_words.specs.LimitLists.{IsLimit}
pub use Rattle.curve_command.specs.Curve.{limits_in}
pub use Rattle.curve_command.specs.CurvePoints.{EndIsTrue, IsLineBelow, IsReachedAt, NoneIsWithin, above_limit}
pub use Rattle.curve_command.specs.CurveTexts.{curve_status, curve_text, first_stop, limit_line}
pub use Rattle.curve_command.specs.KeptRows.{IsBookAtSome, IsMemberOf, IsRenewed, limit_of, limited}
pub use Rattle.curve_command.specs.Limited.{FeasibleWithin, given_limit, limit_at, limit_names, with_limit}
pub use Rattle.curve_command.specs.Outcomes.{BookTells, EndIsWithin, FailTells, IsFoundOf, IsPointBy, IsPrintable, TrialTells, TriedTells, found_seen}
pub use Rattle.curve_command.specs.declared.trials.Found.{Found}
pub use Rattle.curve_command.specs.declared.trials.Limit.{Limit}
pub use Rattle.curve_command.specs.declared.trials.Member.{Member}
pub use Rattle.curve_command.specs.declared.trials.Wanted.{Wanted}
pub use Rattle.emission_curve.specs.Ends.{HasLine, HasLineBelow, HasNoBound, HasNoPlan, IsStopped, PointEnd, ended, point_end, point_seen}
pub use Rattle.emission_curve.specs.Slopes.{emissions_entry, slope_at, slope_formed}
pub use Rattle.exact_num.proofs.Integers.{≤ℤ-*ℤ}
pub use Rattle.exact_num.proofs.Ring.{products, ring}
pub use Rattle.model_sets.specs.Data.{default_of, is_given_at, value_of_none}
pub use Rattle.model_sets.specs.Members.{AreSets, no_members}
pub use Rattle.named_equations.proofs.Common.{+ℤ-zero, ANNUAL_EMISSION_LIMIT, AVAILABILITY_FACTOR, CAPACITY_FACTOR, CAPITAL_COST, DEPRECIATION_METHOD, EMISSION_ACTIVITY_RATIO, FIXED_COST, Holds, MODEL_PERIOD_EMISSION_LIMIT, MODEL_PERIOD_EXOGENOUS_EMISSION, Stands, Statement, TOTAL_ANNUAL_MAX_CAPACITY, TOTAL_ANNUAL_MAX_CAPACITY_INVESTMENT, TOTAL_TECHNOLOGY_ANNUAL_ACTIVITY_UPPER_LIMIT, VARIABLE_COST, meets, model_period_emission_limit, says}
pub use Rattle.named_equations.proofs.InstanceTests.{any_has}
pub use Rattle.named_equations.specs.Plans.{Meets}
pub use Rattle.param_tables.specs.Ranges.{billion}
pub use Rattle.row_book.proofs.Common.{AllByRecursion, AreRowsOf, AreSameData, Book, Bool, CAPACITY_TO_ACTIVITY_UNIT, CanBeMade, Contains-from_Has, Data, Default, E9, Has, Has-append_right, Has-instances, HasStopped, IfOk-weaker, IfSome, Index, IsNamedRow, List, None, OPERATIONAL_LIFE, OUTPUT_ACTIVITY_RATIO, Option, Rational, Row, RowName, SPECIFIED_ANNUAL_DEMAND, SPECIFIED_DEMAND_PROFILE, SetLists, Some, Var, YEAR_SPLIT, [], and_parts, ap, append_assoc, ap₂, arith, at_re, both_true, cond, drop, drop_all, drop_more, entries_in, entry_count, entry_limit, eqb-true, equation_numbers, exists, exists_at, false, flat_map, get_or, if◌then◌else◌, indices, inl, inr, instances, instances_of, ints, is_eq, is_index, is_instance, is_one_of, kind_numbers, length, list_all, list_any, lt-ltb, map, map-append, model_period_emissions, name_at, nat_eq, neg_ℤ, negsuc, pos, range_with_len, refl, row_fits, row_name_cmp, stands_at, subscripts_of, subscripts_of_kind, subst, sym, terms_at, true, true≢false, unwrap_or, value_at, var_cmp, variable, whole, ℕ, ℤ, ≤ℤ_cancel, ◌&&◌, ◌*ℤ◌, ◌*◌, ◌++◌, ◌+ℤ◌, ◌+◌, ◌-◌, ◌<ℤ◌, ◌<◌, ◌^◌, ◌∙◌, ◌∷◌, ◌≡◌, ◌≢◌, ◌≤ℤ◌, ◌≤◌}
unfoldable pub use Rattle.row_book.proofs.Common.{lowest}
pub use Rattle.row_book.proofs.SameRows.{are_rows_of, count-same, fits-same, is_named_row, same-many, same-terms, same-wide}
pub use Rattle.row_book.proofs.Subscripts.{index-from_values, index-tidied, values-from_index, values-re}
pub use Rattle.row_core.proofs.Members.{append_parts}
pub use Rattle.row_core.specs.declared.kind_numbers.TheConstants.{DEMAND, MODEL_PERIOD_EMISSIONS, RATE_OF_DEMAND}
pub use Rattle.row_core.specs.declared.place.Place.TheVariants.{CostRow, Price}
pub use Rattle.simplex_core.specs.declared.stops.TrialStop.TheVariants.{Budget, Width}
pub use Rattle.std.proofs.Common.{Err, Ok, Result, append-nil, codes, of_z, to_z}
pub use Rattle.std.proofs.lemmas.Bool.{cases_eq}
pub use Rattle.std.specs.List.{find}
pub use Rattle.std.specs.Prelude.{IfOk, ◌⊎◌}
pub use Rattle.row_book.specs.declared.fail.BookFail.{BookFail}
