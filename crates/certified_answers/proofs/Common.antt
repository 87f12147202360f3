-- The names that most proofs here cite, passed on from one place. Declares nothing.
pub use Rattle.certificate_checker.specs.Certificates.{AdmitsNone, AreMultipliersOver, BoundsAll, Proves, Refutes, bound_of}
pub use Rattle.certificate_checker.specs.Conditions.{AllPass, Condition, formed_at}
pub use Rattle.certificate_checker.specs.CostNumbers.{number_of}
pub use Rattle.certificate_checker.specs.Denominators.{AreOverSome}
pub use Rattle.certificate_checker.specs.MultiplierChecks.{bound_conditions, infeasible_conditions}
pub use Rattle.certificate_checker.specs.Verdicts.{IfYes, IsVerdict, OnNo, OnYes}
pub use Rattle.certified_answers.specs.Costs.{is_model, weight_at, weight_of}
pub use Rattle.certified_answers.specs.Found.{IsFoundBoundFor, IsFoundDescentFor}
pub use Rattle.certified_answers.specs.Worth.{IsBoundFor, IsClosed, IsDescentFor, IsNear, multiplier_bound, plan_cost}
pub use Rattle.exact_num.specs.Rational.{IsLowest, Rational, pair, whole}
pub use Rattle.exact_num.specs.Value.{value_of}
pub use Rattle.row_core.specs.Order.{row_name_cmp, var_cmp}
pub use Rattle.row_core.specs.Plans.{or_zero, value_in, valued}
pub use Rattle.row_core.specs.Values.{IsOver}
pub use Rattle.row_core.specs.declared.RowName.{RowName}
pub use Rattle.row_core.specs.declared.Var.{Var}
pub use Rattle.std.proofs.Common.{Bool, List, [], ap, arith, false, if◌then◌else◌, inl, map, negsuc, pos, refl, subst, sym, true, ℕ, ℤ, ◌^◌, ◌∙◌, ◌∷◌, ◌≡◌}
pub use Rattle.std.specs.Prelude.{IsTrue, None, Some}
