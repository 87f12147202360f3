-- The 64 named equations of the OSeMOSYS long code, by their short names.
use Rattle.std.specs.Prelude.{ℕ, ◌-◌, ◌≤◌, Bool, List, [], map, nat_eq, slice_index_or}
use Rattle.std.specs.List.{list_any}
use Rattle.row_core.specs.declared.equation_numbers.TheConstants.{EQUATION_COUNT}
use Rattle.row_core.specs.declared.equations.TheConstants.{EQUATIONS}

-- a named equation: its word and its subscripts
pub record Equation : Type 0 where
  pub word : List ℕ
  pub subscripts : List ℕ

-- the equations, from number 1: the one table that the code has too
abbrev pub equations : List Equation
equations = map (λ (word, subscripts). record { word = word.now; subscripts = subscripts.now }) EQUATIONS

-- no equation
abbrev pub no_equation : Equation
no_equation = record { word = []; subscripts = [] }

-- the number is that of an equation
abbrev pub IsEquation : ℕ → Type 0
IsEquation eq = (1 ≤ eq) × (eq ≤ EQUATION_COUNT)

-- the equation of a number
abbrev pub equation_at : ℕ → Equation
equation_at eq = slice_index_or equations (eq - 1) no_equation

-- the word of an equation, as names of rows begin
abbrev pub word_of_equation : ℕ → List ℕ
word_of_equation eq = (equation_at eq).word

-- the equation has the subscript at this place
abbrev pub equation_has : ℕ → ℕ → Bool
equation_has eq place = list_any (nat_eq place) (equation_at eq).subscripts
