-- The names that most proofs here cite, passed on from one place. Declares nothing.
pub use Rattle.discount_factors.specs.Closeness.{IsNearHalfPower, IsNearPower}
pub use Rattle.discount_factors.specs.Factors.{IsHalfYearRoot, IsPlaces, IsWithinRoot, sinking_fund, straight_line, unit_of}
unfoldable pub use Rattle.discount_factors.specs.Factors.{annuity, capital_factor, discounted, half_year_root, operating_factor, recovery_factor, root_from, salvage_fraction}
pub use Rattle.discount_factors.specs.Known.{AreDiscounted, AreKept, Discounting}
pub use Rattle.std.proofs.Common.{List, [], ap, ap₂, arith, eqb, inl, inr, leb, length, ltb, pow-add, refl, subst, suc, sym, true, zero, ℕ, ◌*◌, ◌++◌, ◌+◌, ◌-◌, ◌/◌, ◌<◌, ◌^◌, ◌∙◌, ◌∷◌, ◌≡◌, ◌≤◌}
pub use Rattle.std.proofs.Math.Nat.{div-le_of_le-mul, div-le_self, div-mul-le_self, le_of_mul-le-mul_right, lt-div-mul-add, lt_of_mul-lt-mul_right, mul-le-mul, mul-le-mul_left, mul-le-mul_right, mul-lt-mul_of_pos_right, one-mul, pow-suc, pow-zero}
pub use Rattle.std.proofs.lemmas.Bool.{and_parts, and_right, cases_lt, cond-false, cond-true, cond_both, leb-false, leb-true, lt-ltb, ltb-true}
pub use Rattle.std.proofs.lemmas.List.{get_or_append_left, get_or_push, length-append}
pub use Rattle.std.specs.Prelude.{false, nat_eq, ◌&&◌}
