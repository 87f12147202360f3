-- The terms of an equation, all on its left side: variables, each with the exact value of its coefficient, in strictly ascending order of variables.
use Rattle.std.specs.Prelude.{ℤ, List, [], ◌∷◌, ◌++◌}
use Rattle.std.specs.declared.cmp.Ordering.TheVariants.{Less, Equal, Greater}
use Rattle.exact_num.specs.Formed.{sum_formed}
use Rattle.exact_num.specs.Rational.{Rational, plus}
use Rattle.row_core.specs.declared.Var.{Var}
use Rattle.row_core.specs.Order.{var_cmp}

-- the terms with one more: its coefficient is added to that of its variable; a variable that isn't there yet is put at its place
abbrev pub with_term : Var × Rational → List (Var × Rational) → List (Var × Rational)
with_term new [] = new ∷ []
with_term new (term ∷ terms) =
    elim (var_cmp new.0 term.0) [
      | Less ↦ new ∷ term ∷ terms
      | Equal ↦ (term.0, plus term.1 new.1) ∷ terms
      | Greater ↦ term ∷ with_term new terms
    ]

-- the numbers that this forms: those of the sum, where the variable is there already
abbrev pub term_formed : Var × Rational → List (Var × Rational) → List ℤ
term_formed new [] = []
term_formed new (term ∷ terms) =
    elim (var_cmp new.0 term.0) [
      | Less ↦ []
      | Equal ↦ sum_formed term.1 new.1
      | Greater ↦ term_formed new terms
    ]

-- terms with more of them, taken one after another
abbrev pub gathered_onto : List (Var × Rational) → List (Var × Rational) → List (Var × Rational)
gathered_onto terms [] = terms
gathered_onto terms (new ∷ more) = gathered_onto (with_term new terms) more

-- the terms of an equation, from its terms in the order in which it is written
abbrev pub gathered : List (Var × Rational) → List (Var × Rational)
gathered written = gathered_onto [] written

-- the numbers that are formed when more terms are taken one after another
abbrev pub gathered_formed_onto : List (Var × Rational) → List (Var × Rational) → List ℤ
gathered_formed_onto terms [] = []
gathered_formed_onto terms (new ∷ more) = term_formed new terms ++ gathered_formed_onto (with_term new terms) more

-- the numbers that are formed when the terms of an equation are gathered
abbrev pub gathered_formed : List (Var × Rational) → List ℤ
gathered_formed written = gathered_formed_onto [] written
