-- Terms that a function gives for positions, as amounts.
use Rattle.std.specs.Prelude.{◌≡◌, ℕ, ◌<◌, Bool, true, false, Option, Some, None}
use Rattle.exact_num.specs.declared.fraction.Frac.{Frac}
use Rattle.row_core.specs.declared.Var.{Var}
use Rattle.row_core.specs.Amounts.{Amount}
use Rattle.row_core.specs.Calculated.{known, number_of}

-- the variable and the number are those of the term
abbrev pub IsTerm : Var × Amount → Var × Option Frac → Type 0
IsTerm term given = (given.0 ≡ term.0) × (known given.1 ≡ number_of term.1)

-- what is given for each position below a count is the term there
abbrev pub GivesTerms : ℕ → (ℕ → Var × Option Frac → Type 0) → (ℕ → Var × Amount) → Type 0
GivesTerms count gives term = (i : ℕ) (given : Var × Option Frac) → i < count → gives i given → IsTerm (term i) given

-- the same, or nothing where the position isn't chosen
abbrev pub IsTermWhere : Bool → Var × Amount → Option (Var × Option Frac) → Type 0
IsTermWhere chosen term (Some given) = (chosen ≡ true) × IsTerm term given
IsTermWhere chosen term None = chosen ≡ false

abbrev pub GivesTermsWhere : ℕ → (ℕ → Option (Var × Option Frac) → Type 0) → (ℕ → Bool) → (ℕ → Var × Amount) → Type 0
GivesTermsWhere count gives chosen term = (i : ℕ) (given : Option (Var × Option Frac)) → i < count → gives i given → IsTermWhere (chosen i) (term i) given
