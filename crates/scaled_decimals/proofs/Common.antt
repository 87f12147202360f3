-- The names that most proofs here cite, passed on from one place. Declares nothing.
pub use Rattle.exact_num.proofs.RangeLaws.{back_in_range, in_range-no, in_range-yes}
pub use Rattle.exact_num.specs.Range.{InRange}
unfoldable pub use Rattle.exact_num.specs.Range.{all_fit, in_range}
pub use Rattle.exact_num.specs.Rational.{Rational, pair, signed_by, whole}
unfoldable pub use Rattle.exact_num.specs.Rational.{lowest}
pub use Rattle.exact_num.specs.Value.{value_of}
pub use Rattle.exact_num.specs.declared.fraction.Frac.{Frac}
pub use Rattle.scaled_decimals.specs.DecimalReading.{Reads, billionths, decimal_of, is_above, is_rounded, lowered, mantissa, raised, read_ratio, with_sign}
unfoldable pub use Rattle.scaled_decimals.specs.DecimalReading.{denominator, numerator}
pub use Rattle.scaled_decimals.specs.Digits.{AreDigits, IsNumeral}
unfoldable pub use Rattle.scaled_decimals.specs.Digits.{continued, number_of}
pub use Rattle.scaled_decimals.specs.FractionReading.{AgreesWith, ReadsValue}
pub use Rattle.scaled_decimals.specs.FractionText.{Decimal, Form, FractionText, IsFormed, Quotient, SpellsValue, Whole, above_of, below_of, bottom_of, form_bytes, top_of}
pub use Rattle.scaled_decimals.specs.NumberText.{Bare, Exponent, IsExponent, Minus, NumberText, Plus, Sign, Spells, exponent_bytes, exponent_digits, fraction_bytes, fraction_digits, is_lowering, is_minus, mark, sign_bytes}
pub use Rattle.scaled_decimals.specs.PartsReading.{IsHead, IsKept, IsPower, after_digits, digits_in_front, form_of}
pub use Rattle.scaled_decimals.specs.PrintedFraction.{denominator_text}
unfoldable pub use Rattle.scaled_decimals.specs.PrintedFraction.{fraction_text}
pub use Rattle.scaled_decimals.specs.PrintedPlaces.{last_digit, places_text, sign_of, six_digits, unsigned_millionths}
unfoldable pub use Rattle.scaled_decimals.specs.PrintedPlaces.{after_point, before_point, millionths, millionths_text, read_millionths}
pub use Rattle.scaled_decimals.specs.Rounding.{nearest}
pub use Rattle.scaled_decimals.specs.declared.reading.DecFault.{DecFault}
pub use Rattle.scaled_decimals.specs.declared.reading.DecFault.TheVariants.{NotNumber, TooLarge}
pub use Rattle.scaled_decimals.specs.declared.reading.head.Head.{Head}
pub use Rattle.std.proofs.Common.{Bool, Err, List, None, Ok, Option, Result, Some, [], add-one, ap, append-nil, append_assoc, ap₂, arith, cond, drop, eqb, false, get_or, inl, inr, length, lit<, lit≤, ltb, neg_ℤ, negsuc, not, of_z, pos, pow-add, refl, subst, suc, sym, take, to_z, true, zero, ℕ, ℤ, ◌%◌, ◌*ℤ◌, ◌*◌, ◌++◌, ◌+◌, ◌-ℤ◌, ◌-◌, ◌/◌, ◌<ℤ◌, ◌<◌, ◌^◌, ◌∙◌, ◌∷◌, ◌≡◌, ◌≢◌, ◌≤◌, ◌⊎◌}
pub use Rattle.std.proofs.Math.Nat.{add_comm, div-div-eq-div-mul, div-eq_of_lt-le, lt-mul-div-succ, mod-lt, mul-add-div_right, mul-div-le, mul-div-mul_right, mul-le-mul_left, mul-le-mul_right, mul-lt-mul_of_pos_right, mul_assoc, mul_comm, one-le-pow, pow-le-pow_right, pow-suc}
pub use Rattle.std.proofs.Math.Numerals.{one-add}
pub use Rattle.std.proofs.Math.Seq.{drop-append_seam, drop-length, take-append_seam, take-length}
pub use Rattle.std.proofs.lemmas.Bool.{cases_lt, eq-eqb, eqb-true, false≢true, le-ltb, lt-ltb, ltb-false}
pub use Rattle.std.proofs.lemmas.Bool.Decides.{nat_tests}
pub use Rattle.std.proofs.lemmas.Fmt.{decimal_is_IsNumeral_wide}
pub use Rattle.std.proofs.lemmas.Int.{ints, to_z_pos}
pub use Rattle.std.proofs.lemmas.List.{at_drop_all, at_drop_more, drop_more, take-append-drop}
pub use Rattle.std.proofs.lemmas.List.Sums.{prefix_len-drop_all, prefix_len-drop_no, prefix_len-drop_yes, prefix_len-le-length}
pub use Rattle.std.proofs.lemmas.Nat.{div-add-mod', div-mul-add, div_below, mod-mul-add}
pub use Rattle.std.proofs.lemmas.Str.{digit_value_digit}
pub use Rattle.std.proofs.lemmas.Str.Parse.{digit_from_value}
pub use Rattle.std.specs.Char.{digit_value, is_ascii_digit}
pub use Rattle.std.specs.Fmt.{signed_decimal}
unfoldable pub use Rattle.std.specs.Fmt.{digits}
pub use Rattle.std.specs.Int.{IsInRange, w128}
pub use Rattle.std.specs.List.{prefix_len}
pub use Rattle.std.specs.Prelude.{IfOk, codes, if◌then◌else◌, min, slice_index, unsigned_abs, ◌&&◌, ◌||◌}
pub use Rattle.std.specs.Str.Parse.{AllDigits, digits_value_after}
