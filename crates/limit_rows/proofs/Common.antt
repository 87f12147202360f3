-- The names that most proofs here cite, passed on from one place. Declares nothing.
pub use Rattle.limit_rows.specs.RenewableTarget.{part_for_target, products_of, re2, re3, renewable_production, target_production}
pub use Rattle.limit_rows.specs.Rows.{IsLimitEquation, terms_at}
pub use Rattle.model_sets.specs.Names.{timeslice}
pub use Rattle.named_equations.proofs.Common.{AAC1, AAC2, AAC3, Amount, Billionths, List, NCC1, NCC2, RE1, RE2, RE3, RE4, RE5, RM1, RM2, RM3, TAC1, TAC2, TAC3, TCC1, TCC2, Var, all_years, ap, arith, capacity_to_activity_unit, count_of, fuel, fuels, name_at, not, pos, produced_fuels, produces, producing_technologies, re_min_production_target, re_tag_fuel, re_tag_technology, refl, reserve_margin, reserve_margin_tag_technology, stands_at, subst, sym, technology, total_annual_max_capacity, total_annual_max_capacity_investment, total_annual_min_capacity, total_annual_min_capacity_investment, total_technology_annual_activity_lower_limit, total_technology_annual_activity_upper_limit, total_technology_model_period_activity_lower_limit, total_technology_model_period_activity_upper_limit, true, value_of_amount, variable_of, year_split, ℕ, ℤ, ◌*ℤ◌, ◌+◌, ◌<◌, ◌||◌, ◌∙◌, ◌≡◌, ◌≤◌}
pub use Rattle.named_equations.proofs.NestedTerms.{nested-step, with_rest_of}
pub use Rattle.named_equations.proofs.PositionsInSets.{of_number}
pub use Rattle.named_equations.proofs.TermMeaning.{EachFrom, IsNamedEquation, MeansStatement, at_number, definition_is, inequality_is, limit, named_row, over-data, sum_of_others, sum_of_others-defines, weighted_sum, weighted_sum-defines}
pub use Rattle.named_equations.specs.Positions.{technologies, timeslices}
pub use Rattle.row_core.specs.Calculated.{no_terms, with_amounts}
pub use Rattle.row_core.specs.EquationTerms.{IsWritten, equation_formed}
pub use Rattle.std.proofs.Common.{None, Some, drop, rules, ◌≢◌}
