-- Numbers and left sides while they are made: what has been made so far, or nothing once a number that was formed doesn't fit.
use Rattle.std.specs.Prelude.{◌^◌, pos, Bool, false, List, [], ◌∷◌, Option, Some, None, if◌then◌else◌}
use Rattle.std.specs.Option.{option_map}
use Rattle.exact_num.specs.Formed.{product_formed, sum_formed}
use Rattle.exact_num.specs.Range.{all_fit}
use Rattle.exact_num.specs.Rational.{Rational, lowest, plus, times, negated, whole}
use Rattle.exact_num.specs.Value.{value_of}
use Rattle.exact_num.specs.declared.fraction.Frac.{Frac}
use Rattle.row_core.specs.declared.RowName.{RowName}
use Rattle.row_core.specs.declared.Var.{Var}
use Rattle.row_core.specs.Amounts.{Amount}
use Rattle.row_core.specs.Amounts.{Whole, Billionths, Factor, Product, Total, Negative}
use Rattle.row_core.specs.Terms.{with_term, term_formed}
use Rattle.row_core.specs.Written.{written_formed}

-- what the code keeps as a number, as an exact value
abbrev pub known : Option Frac → Option Rational
known number = option_map value_of number

-- this, where the test is true
abbrev pub only_if : {A : Type 0} → Bool → A → Option A
only_if fits made = if fits then Some made else None

-- a product
unfoldable pub product_of : Option Rational → Option Rational → Option Rational
product_of (Some x) (Some y) = only_if (all_fit (product_formed x y)) (times x y)
product_of (Some x) None = None
product_of None y = None

-- a sum
unfoldable pub total_of : Option Rational → Option Rational → Option Rational
total_of (Some x) (Some y) = only_if (all_fit (sum_formed x y)) (plus x y)
total_of (Some x) None = None
total_of None y = None

-- a negative
unfoldable pub negative_of : Option Rational → Option Rational
negative_of x = option_map negated x

-- an amount
abbrev pub number_of : Amount → Option Rational
number_of (Whole n) = Some (whole n)
number_of (Billionths n) = Some (lowest n (pos (10 ^ 9)))
number_of (Factor places n) = Some (lowest n (pos (10 ^ places)))
number_of (Product a b) = product_of (number_of a) (number_of b)
number_of (Total a b) = total_of (number_of a) (number_of b)
number_of (Negative a) = negative_of (number_of a)

-- terms with one more
abbrev pub terms_with : Var → Option Rational → Option (List (Var × Rational)) → Option (List (Var × Rational))
terms_with v (Some c) (Some terms) = only_if (all_fit (term_formed (v, c) terms)) (with_term (v, c) terms)
terms_with v (Some c) None = None
terms_with v None terms = None

-- a left side while it is made: the name of its equation, and its terms so far
pub record Side : Type 0 where
  pub name : RowName
  pub terms : Option (List (Var × Rational))

-- the left side of the equation of this name, without terms
abbrev pub no_terms : RowName → Side
no_terms name = record { name = name; terms = Some [] }

-- a left side with one more term
unfoldable pub with_number : Var → Option Rational → Side → Side
with_number v c side = record { name = side.name; terms = terms_with v c side.terms }

-- a left side with more terms, one after another
abbrev pub with_amounts : List (Var × Amount) → Side → Side
with_amounts [] side = side
with_amounts (term ∷ terms) side = with_amounts terms (with_number term.0 (number_of term.1) side)

-- all numbers fit that are formed when a row is made of a left and a right side
abbrev pub can_be_written : Option (List (Var × Rational)) → Option Rational → Bool
can_be_written (Some terms) (Some right) = all_fit (written_formed terms right)
can_be_written (Some terms) None = false
can_be_written None right = false
