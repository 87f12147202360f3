-- The names that most proofs here cite, passed on from one place. Declares nothing.
pub use Rattle.exact_num.proofs.Integers.{*ℤ_cancel, nonzero_of_pos, ≤ℤ_or_<ℤ}
pub use Rattle.exact_num.proofs.RangeLaws.{FitsSigned-from_InRange, InRange-neg_ℤ, back_in_range}
pub use Rattle.exact_num.proofs.RationalLaws.{lowest-bottom, lowest-cross, lowest-top, lowest_is, whole-IsLowest}
pub use Rattle.exact_num.specs.Range.{InRange}
pub use Rattle.exact_num.specs.Rational.{Rational, lowest, pair, whole}
pub use Rattle.exact_num.specs.Value.{value_of}
pub use Rattle.model_sets.specs.Members.{AreSets, first_year, years}
pub use Rattle.model_sets.specs.Names.{region}
pub use Rattle.model_sets.specs.Params.{range_of}
pub use Rattle.named_equations.proofs.Common.{*ℤ-one, *ℤ_comm, Bool, DEPRECIATION_METHOD, DISCOUNT_RATE, Data, IsRegion, IsYear, List, OPERATIONAL_LIFE, YEAR_SPLIT, [], and_parts, annuity, annuity_of, ap, ap₂, arith, count_of, eqb-true, false, inl, inr, ints, is_covered, is_limit, is_not_zero, is_positive, is_times, last_year, length, less, life_of, map, members, mode, neg_ℤ, neg_ℤ-*ℤ, not, number_of_year, pos, rate_of, refl, salvage_fraction, salvage_fraction_of, subst, suc, sym, true, value_at, year, years_left, zero, zero-+ℤ, ℕ, ℤ, ◌&&◌, ◌*ℤ◌, ◌*◌, ◌+◌, ◌-◌, ◌<ℤ◌, ◌<◌, ◌^◌, ◌∙◌, ◌∷◌, ◌≡◌, ◌≤ℤ◌, ◌≤◌}
pub use Rattle.named_equations.proofs.SomePosition.{any-begin, any-end, any-here, any-later, any_from}
pub use Rattle.named_equations.specs.Parameters.{region_name, slice_name, technology_name, year_name}
pub use Rattle.named_equations.specs.Positions.{modes}
pub use Rattle.named_equations.specs.RegionFactors.{AreFactorsOf, AreRegionFactors, places_of}
pub use Rattle.named_equations.specs.Where.{no_limit}
pub use Rattle.param_tables.specs.Built.{IsValueIn}
pub use Rattle.param_tables.specs.Positions.{names_at}
pub use Rattle.param_tables.specs.Ranges.{IsInRange, billion}
pub use Rattle.row_core.proofs.AmountLaws.{added}
pub use Rattle.row_core.specs.Calculated.{Side, known, negative_of, number_of, with_amounts, with_number}
pub use Rattle.row_core.specs.EquationTerms.{each}
pub use Rattle.std.proofs.Common.{All, Contains, FitsSigned, None, Option, Some, T, drop, get_or, nat_eq, of_z, rules, to_z, ◌-ℤ◌, ◌/◌, ◌≢◌}
pub use Rattle.std.proofs.Math.Nat.{mul-div_cancel, mul-div_cancel_left}
pub use Rattle.std.proofs.lemmas.Bool.{cases_Bool, eq-eqb, leb-true, lt-ltb, ltb-true}
pub use Rattle.std.proofs.lemmas.List.{at_drop_all, at_drop_more, length-map}
pub use Rattle.std.specs.Int.{w128}
pub use Rattle.std.specs.Prelude.{IsSomeAnd, int_lt, nat_le, nat_lt, unsigned_abs, unwrap_or}
