-- An equation as it is written: its terms with all of them on the left, its sense, and its right side; and the numbers that are formed when its row is written.
use Rattle.std.specs.Prelude.{◌≡◌, ℕ, ℤ, pos, negsuc, true, List, [], ◌∷◌, ◌++◌, map, Result, Ok, Err}
use Rattle.exact_num.specs.Range.{all_fit}
use Rattle.exact_num.specs.Rational.{Rational}
use Rattle.row_core.specs.declared.Row.{Row}
use Rattle.row_core.specs.declared.RowName.{RowName}
use Rattle.row_core.specs.declared.Sense.{Sense}
use Rattle.row_core.specs.declared.Var.{Var}
use Rattle.row_core.specs.declared.place.Place.{Place}
use Rattle.row_core.specs.declared.place.Stopped.{Stopped}
use Rattle.row_core.specs.Amounts.{Amount, value_of_amount, amount_formed}
use Rattle.row_core.specs.Amounts.{Whole}
use Rattle.row_core.specs.Stops.{IsStop}
use Rattle.row_core.specs.Terms.{gathered, gathered_formed}
use Rattle.row_core.specs.Values.{SaysTheSame, HasSigns}
use Rattle.row_core.specs.Written.{written_entries, written_right, written_formed}

-- the equation: the sum of the terms, each a coefficient times its variable, stands in this sense to the right side
pub record EquationTerms : Type 0 where
  pub terms : List (Var × Amount)
  pub sense : Sense
  pub right : Amount

-- ---- how terms are written down

-- a variable itself
abbrev pub once : Var → Var × Amount
once v = (v, Whole (pos 1))

-- a variable taken away
abbrev pub less : Var → Var × Amount
less v = (v, Whole (negsuc 0))

-- a term for each of these positions
abbrev pub each : List ℕ → (ℕ → Var × Amount) → List (Var × Amount)
each is term = map term is

-- nothing on the right side
abbrev pub nothing : Amount
nothing = Whole (pos 0)

-- ---- what is written

-- the variables with the values of their coefficients
abbrev pub coefficients_of : List (Var × Amount) → List (Var × Rational)
coefficients_of [] = []
coefficients_of (term ∷ terms) = (term.0, value_of_amount term.1) ∷ coefficients_of terms

-- the terms by variable, those of one variable added
abbrev pub terms_of : EquationTerms → List (Var × Rational)
terms_of e = gathered (coefficients_of e.terms)

-- the value of the right side
abbrev pub right_of : EquationTerms → Rational
right_of e = value_of_amount e.right

-- the numbers that the coefficients form
abbrev pub coefficients_formed : List (Var × Amount) → List ℤ
coefficients_formed [] = []
coefficients_formed (term ∷ terms) = amount_formed term.1 ++ coefficients_formed terms

-- all numbers that are formed for the row: the coefficients, the sums of those of one variable, the right side, and what clears the denominators
abbrev pub equation_formed : EquationTerms → List ℤ
equation_formed e =
    coefficients_formed e.terms
    ++ (gathered_formed (coefficients_of e.terms)
    ++ (amount_formed e.right
    ++ written_formed (terms_of e) (right_of e)))

-- the row is the one that is written for the equation, under this name
pub record IsRowOf (name : RowName) (e : EquationTerms) (row : Row) : Type 0 where
  pub named : row.name ≡ name
  pub sense : row.sense ≡ e.sense
  pub entries : row.entries.items ≡ written_entries (terms_of e) (right_of e)
  pub right_side : row.rhs ≡ written_right (terms_of e) (right_of e)

-- it says what the equation says, and its entries have the signs of the coefficients
pub record SaysWhat (e : EquationTerms) (row : Row) : Type 0 where
  pub says : SaysTheSame (terms_of e) (right_of e) row
  pub signs : HasSigns (terms_of e) row

-- the row of the equation is written, or the first number that doesn't fit is at its name
abbrev pub IsWritten : RowName → EquationTerms → Result Row Stopped → Type 0
IsWritten name e (Ok row) = IsRowOf name e row × SaysWhat e row × (all_fit (equation_formed e) ≡ true)
IsWritten name e (Err stopped) = IsStop (Place.Row name) (all_fit (equation_formed e)) stopped
