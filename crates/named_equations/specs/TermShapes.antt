-- Shapes of terms that many equations share.
use Rattle.std.specs.Prelude.{ℕ, ℤ, List, [], ◌∷◌, flat_map}
use Rattle.row_core.specs.declared.Sense.{Sense}
use Rattle.row_core.specs.declared.Sense.TheVariants.{Equal, Most}
use Rattle.row_core.specs.declared.Var.{Var}
use Rattle.row_core.specs.Amounts.{Amount, Billionths, Negative}
use Rattle.row_core.specs.EquationTerms.{EquationTerms, once, less, each, nothing}

-- v in this sense to z: a variable stands to a data value
abbrev pub is_limited : Sense → Var → ℤ → EquationTerms
is_limited sense v z = record { terms = once v ∷ []; sense = sense; right = Billionths z }

-- v * z - w <= 0: a variable times a data value is at most another
abbrev pub is_covered : Var → ℤ → Var → EquationTerms
is_covered v z w = record { terms = (v, Billionths z) ∷ less w ∷ []; sense = Most; right = nothing }

-- v - these others = 0: a variable is what others make, taken away here
abbrev pub is_made_of : Var → List (Var × Amount) → EquationTerms
is_made_of v others = record { terms = once v ∷ others; sense = Equal; right = nothing }

-- v - w * a = 0: a variable is another times a number
abbrev pub is_times : Var → Var → Amount → EquationTerms
is_times v w a = is_made_of v ((w, Negative a) ∷ [])

-- others taken away, one for each of these positions
abbrev pub sum_away : List ℕ → (ℕ → Var) → List (Var × Amount)
sum_away is w = each is (λ i. less (w i))

-- others times numbers taken away, one for each of these positions
abbrev pub products_away : List ℕ → (ℕ → Var) → (ℕ → Amount) → List (Var × Amount)
products_away is w a = each is (λ i. (w i, Negative (a i)))

-- for each of these positions in turn, the terms that f lists
abbrev pub for_each : List ℕ → (ℕ → List (Var × Amount)) → List (Var × Amount)
for_each is f = flat_map f is
