-- The names that most proofs here cite, passed on from one place. Declares nothing.
pub use Rattle.exact_num.specs.Formed.{common}
unfoldable pub use Rattle.exact_num.specs.Formed.{difference_formed, product_formed, quotient_formed, sum_formed}
unfoldable pub use Rattle.exact_num.specs.Gcd.{gcd_of, gcd_within}
pub use Rattle.exact_num.specs.Range.{InRange}
unfoldable pub use Rattle.exact_num.specs.Range.{all_fit, in_range}
pub use Rattle.exact_num.specs.Rational.{IsLowest, Rational, negated, pair, reciprocal, signed_by, whole}
unfoldable pub use Rattle.exact_num.specs.Rational.{divided, lowest, minus, order_of, plus, times}
pub use Rattle.exact_num.specs.Steps.{Step}
unfoldable pub use Rattle.exact_num.specs.Steps.{first_wide}
pub use Rattle.exact_num.specs.Value.{value_of}
pub use Rattle.std.proofs.Common.{Bool, List, None, Option, Some, [], ap, ap₂, arith, cond, eqb, false, inl, inr, lit<, max, min, neg_ℤ, negsuc, of_z, pos, refl, subst, suc, sym, to_z, true, zero, ℕ, ℤ, ◌%◌, ◌&&◌, ◌*ℤ◌, ◌*◌, ◌++◌, ◌+ℤ◌, ◌+◌, ◌-ℤ◌, ◌-◌, ◌/◌, ◌<◌, ◌^◌, ◌∙◌, ◌∷◌, ◌≡◌, ◌≢◌, ◌≤◌, ◌⊎◌}
pub use Rattle.std.proofs.Math.Nat.{div-div-eq-div-mul, div-mul_cancel, dvd-add, dvd-mul_left, dvd-mul_left_of_dvd, dvd-mul_right, dvd-mul_right_of_dvd, dvd-sub, eq-one_of_dvd-one, eq_of_mul-eq-mul_right, mod-eq_of_lt, mul-dvd-mul_left, mul-le-mul_left, mul-lt-mul_of_pos_left, mul_comm, one-dvd, pos_of_dvd_of_pos, pow-succ'}
pub use Rattle.std.proofs.lemmas.Bool.{cases_eq, cases_lt, cases_order}
pub use Rattle.std.proofs.lemmas.Bool.Decides.{nat_tests}
pub use Rattle.std.proofs.lemmas.Int.{fits_signed_mul, ints, to_z-of_z, to_z_pos, unsigned_abs-mul}
pub use Rattle.std.proofs.lemmas.Nat.Gcd.{IsGcd-from_mod, IsGcd-from_sub, IsGcd-from_zero, IsGcd-swap, dvd_antisymm, dvd_refl, dvd_trans, le_of_dvd, same_from_IsGcd}
pub use Rattle.std.specs.Int.{IsGcd, abs_diff, w128, ◌∣◌}
pub use Rattle.std.specs.Int.Count.{under}
unfoldable pub use Rattle.std.specs.Int.Count.{count_trailing_zeros}
pub use Rattle.std.specs.Ordering.{MatchOrdering, int_cmp, nat_cmp, ordering_reverse}
pub use Rattle.std.specs.Prelude.{Err, FitsSigned, IfOk, IsErr, Ok, Result, flat_map, int_div, is_none, is_ok, nat_lt, unsigned_abs, ◌<ℤ◌, ◌≤ℤ◌}
pub use Rattle.std.specs.declared.cmp.Ordering.TheVariants.{Equal, Greater, Less}
pub use borrow.Author.Differences.{down, le_out, lt_out, neg_is, product_is, sum_is_lem, up}
