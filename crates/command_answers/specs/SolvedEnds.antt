-- Ends that several commands come to: that there is no plan, or no least cost. `told` has the text for what is found and the pivots that were made.
use Rattle.std.specs.Prelude.{◌≡◌, ◌≤◌, ℕ, List}
use Rattle.exact_num.specs.Rational.{Rational}
use Rattle.model_sets.specs.Data.{Data}
use Rattle.row_core.specs.declared.Row.{Row}
use Rattle.row_core.specs.declared.RowName.{RowName}
use Rattle.row_core.specs.declared.Var.{Var}
use Rattle.named_equations.specs.Existence.{all_variables}
use Rattle.exact_solver.specs.MethodEnds.{HasNoBound, HasNoPlan}
use Rattle.command_answers.specs.BookMethods.{method_end}
use Rattle.command_answers.specs.SolvedPlans.{AreUnbounded, IsRefuted}
use Rattle.command_answers.specs.declared.status.Status.{Status}
use Rattle.command_answers.specs.declared.status.Status.TheVariants.{Infeasible, Unbounded}

-- ---- by the exact method, with so many pivots at most

-- no plan meets the named equations
pub record IsInfeasible (places : ℕ) (d : Data) (rows : List Row) (pivots : ℕ)
    (told : List (RowName × Rational) → ℕ → List ℕ) (status : Status) (text : List ℕ) : Type 0 where
  pub multipliers : List (RowName × Rational)
  pub made : ℕ
  pub end : method_end rows (all_variables d) pivots ≡ HasNoPlan multipliers made
  pub refuted : IsRefuted places d rows multipliers
  pub status_is : status ≡ Infeasible
  pub text_is : text ≡ told multipliers made

-- plans of any lower cost meet them
pub record IsUnbounded (places : ℕ) (d : Data) (rows : List Row) (pivots : ℕ)
    (told : List (Var × Rational) → List (Var × Rational) → ℕ → List ℕ) (status : Status) (text : List ℕ) : Type 0 where
  pub plan : List (Var × Rational)
  pub direction : List (Var × Rational)
  pub made : ℕ
  pub end : method_end rows (all_variables d) pivots ≡ HasNoBound plan direction made
  pub unbounded : AreUnbounded places d rows plan direction
  pub status_is : status ≡ Unbounded
  pub text_is : text ≡ told plan direction made

-- ---- found in numbers of limited accuracy, and proved: the pivots that are told are at most those that a guess may make

-- no plan meets the named equations
pub record IsFoundInfeasible (places : ℕ) (d : Data) (rows : List Row) (pivots : ℕ)
    (told : List (RowName × Rational) → ℕ → List ℕ) (status : Status) (text : List ℕ) : Type 0 where
  pub multipliers : List (RowName × Rational)
  pub made : ℕ
  pub within : made ≤ pivots
  pub refuted : IsRefuted places d rows multipliers
  pub status_is : status ≡ Infeasible
  pub text_is : text ≡ told multipliers made
