-- What a linear program has to do with the plans of the named equations: the values of a plan meet it exactly where the plan is feasible, and its objective is the plan's cost.
use Rattle.std.specs.Prelude.{◌≡◌, ℕ, ℤ, true, List, map, ◌↔◌}
use Rattle.std.specs.List.{AllByRecursion, AllZip, enumerate_from}
use Rattle.model_sets.specs.Data.{Data}
use Rattle.model_sets.specs.Members.{SetLists}
use Rattle.row_core.specs.declared.RowName.{RowName}
use Rattle.row_core.specs.declared.Var.{Var}
use Rattle.named_equations.specs.Existence.{all_variables}
use Rattle.named_equations.specs.Instances.{instances}
use Rattle.named_equations.specs.Plans.{Feasible, Meets, cost}
use Rattle.mps_meaning.specs.Lines.{Name, is_one_line}
use Rattle.mps_meaning.specs.Programs.{HoldsOf, MeetsProgram, Program, ProgramRow, objective_of}
use Rattle.mps_reading.specs.RowPrograms.{name_of_column, program_column}

-- no member of a set has a name with a line feed
abbrev pub HaveOneLineNames : SetLists → Type 0
HaveOneLineNames sets = AllByRecursion (λ names. AllByRecursion (λ name. is_one_line name ≡ true) names) sets

-- column j has the whole number of the j-th variable
abbrev pub AreValuesOf : List Var → (Var → ℤ) → (Name → ℤ) → Type 0
AreValuesOf columns x value = AllByRecursion (λ c. value (name_of_column c.0) ≡ x c.1) (enumerate_from 1 columns)

-- a plan, and values for columns: whole numbers over one q
pub record PlanWithValues : Type 0 where
  pub q : ℕ
  pub plan : Var → ℤ
  pub values : Name → ℤ

-- the row holds of the values exactly where the plan meets the equation of this name
abbrev pub RowSays : ℕ → Data → PlanWithValues → RowName → ProgramRow → Type 0
RowSays places d both name row = HoldsOf both.q both.values row ↔ Meets places d both.q both.plan name

-- The program is that of the named equations over these data, with written factors of so many decimal places.
pub record IsProgramOf (places : ℕ) (d : Data) (program : Program) : Type 0 where
  -- column j is the j-th variable that exists, at least 0 unless it may be below
  pub columns : program.columns ≡ map program_column (enumerate_from 1 (all_variables d))
  -- every plan gives the columns values
  pub valued : (x : Var → ℤ) → (values : Name → ℤ) × AreValuesOf (all_variables d) x values
  -- row i says what the i-th instance says
  pub rows : (both : PlanWithValues) → AreValuesOf (all_variables d) both.plan both.values → AllZip (RowSays places d both) (instances d) program.rows
  -- the values of a plan meet the program exactly where the plan is feasible
  pub feasible : (q : ℕ) (x : Var → ℤ) (values : Name → ℤ) → AreValuesOf (all_variables d) x values → MeetsProgram program q values ↔ Feasible places d q x
  -- and cost what the plan costs
  pub costs : (x : Var → ℤ) (values : Name → ℤ) → AreValuesOf (all_variables d) x values → objective_of program values ≡ cost d x
  -- all values are those of a plan: that of their columns for the variables that exist
  pub planned : (values : Name → ℤ) → (x : Var → ℤ) × AreValuesOf (all_variables d) x values
