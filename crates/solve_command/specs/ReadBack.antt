-- What the files of a plan, of multipliers and of a proof are read as: what was found, with multipliers that have the same values.
use Rattle.std.specs.Prelude.{◌≡◌, ℕ, List, [], map, ⊤}
use Rattle.exact_num.specs.Rational.{Rational}
use Rattle.exact_num.specs.declared.fraction.Frac.{Frac}
use Rattle.model_sets.specs.Data.{Data}
use Rattle.row_core.specs.declared.Row.{Row}
use Rattle.row_core.specs.declared.RowName.{RowName}
use Rattle.row_core.specs.declared.Var.{Var}
use Rattle.row_core.specs.Numbers.{keys_of}
use Rattle.row_core.specs.Order.{row_name_cmp}
use Rattle.row_core.specs.Plans.{valued, value_in}
use Rattle.named_equations.specs.Existence.{all_variables}
use Rattle.named_equations.specs.Instances.{instances}
use Rattle.plan_files.specs.Answers.{AreMultipliers, IsPlan}
use Rattle.plan_files.specs.Files.{records_of}
use Rattle.proof_files.specs.declared.proof.Proof.{Proof}
use Rattle.proof_files.specs.declared.proof.Proof.TheVariants.{Optimum, Refutation, Descent}
use Rattle.proof_files.specs.ProofRecords.{descent_file, optimum_file, refutation_file}
use Rattle.proof_files.specs.Proofs.{IsProof}
use Rattle.certified_answers.specs.Answers.{AreNamedIn}
use Rattle.certified_answers.specs.declared.answers.Certified.{Certified}
use Rattle.certified_answers.specs.declared.answers.Certified.TheVariants as found
use Rattle.solve_command.specs.declared.solve.Shown.{Shown}
use Rattle.solve_command.specs.declared.solve.Shown.TheVariants as shows
use Rattle.solve_command.specs.SolveTexts.{multiplier_file, plan_file}

-- ---- fractions

-- every value is that of a fraction
pub record AreFractions {K : Type 0} (values : List (K × Rational)) : Type 0 where
  pub fractions : List (K × Frac)
  pub are : map valued fractions ≡ values

abbrev pub HasFractions : Certified → Type 0
HasFractions (found.Optimal plan multipliers cost bound made) = AreFractions plan × AreFractions multipliers
HasFractions (found.Infeasible multipliers made) = AreFractions multipliers
HasFractions (found.Unbounded plan direction made) = AreFractions plan × AreFractions direction

-- ---- what a text is read as

-- as this proof, over data with a variable
abbrev pub IsReadAs : Data → List ℕ → Proof → Type 0
IsReadAs d text proof =
    (all_variables d ≡ [] → ⊥) → IsProof d.sets (all_variables d) (instances d) (records_of text) proof

-- multipliers with the same value for each row
abbrev pub HaveSameValues : List (RowName × Rational) → List (RowName × Rational) → Type 0
HaveSameValues kept multipliers =
    (name : RowName) → value_in row_name_cmp kept name ≡ value_in row_name_cmp multipliers name

-- as the plan, and as multipliers that have the values of these
pub record TellsOptimum (d : Data) (plan : List (Var × Rational)) (multipliers : List (RowName × Rational))
    (text : List ℕ) : Type 0 where
  pub kept : List (RowName × Rational)
  pub read : IsReadAs d text (Optimum plan kept)
  pub same : HaveSameValues kept multipliers

-- as multipliers alone, that have the values of these
pub record TellsRefutation (d : Data) (multipliers : List (RowName × Rational)) (text : List ℕ) : Type 0 where
  pub kept : List (RowName × Rational)
  pub read : IsReadAs d text (Refutation kept)
  pub same : HaveSameValues kept multipliers

-- as the plan and the direction
abbrev pub TellsDescent : Data → List (Var × Rational) → List (Var × Rational) → List ℕ → Type 0
TellsDescent d plan direction text = IsReadAs d text (Descent plan direction)

-- the file of a plan alone is read as the plan
abbrev pub TellsPlan : Data → List (Var × Rational) → List ℕ → Type 0
TellsPlan d plan text = IsPlan d.sets (all_variables d) (records_of text) plan

-- that of multipliers alone as multipliers that have the values of these
pub record TellsMultipliers (d : Data) (multipliers : List (RowName × Rational)) (text : List ℕ) : Type 0 where
  pub kept : List (RowName × Rational)
  pub read : AreMultipliers d.sets (instances d) (records_of text) kept
  pub same : HaveSameValues kept multipliers

-- what is written of an end over rows and variables is read so
pub record ReadsBack (d : Data) (rows : List Row) (vars : List Var) : Type 0 where
  pub optimum : (plan : List (Var × Rational)) (multipliers : List (RowName × Rational))
      → AreFractions plan → AreFractions multipliers → keys_of plan ≡ vars → AreNamedIn rows multipliers
      → TellsOptimum d plan multipliers (optimum_file d.sets plan multipliers)
  pub plan : (plan : List (Var × Rational)) → AreFractions plan → keys_of plan ≡ vars → TellsPlan d plan (plan_file d.sets plan)
  pub multipliers : (multipliers : List (RowName × Rational)) → AreFractions multipliers → AreNamedIn rows multipliers
      → TellsMultipliers d multipliers (multiplier_file d.sets multipliers)
  pub refutation : (multipliers : List (RowName × Rational))
      → AreFractions multipliers → AreNamedIn rows multipliers
      → TellsRefutation d multipliers (refutation_file d.sets multipliers)
  pub descent : (plan direction : List (Var × Rational))
      → AreFractions plan → AreFractions direction → keys_of plan ≡ vars → keys_of direction ≡ vars
      → TellsDescent d plan direction (descent_file d.sets plan direction)

-- where a proof is to be shown
abbrev pub WhereProof : Shown → Type 0 → Type 0
WhereProof shows.Proof Told = Told
WhereProof show Told = ⊤

-- what the text of an optimum is read as, by what is shown of it
abbrev pub TellsShown : Shown → Data → List (Var × Rational) → List (RowName × Rational) → List ℕ → Type 0
TellsShown shows.Plan d plan multipliers text = TellsPlan d plan text
TellsShown shows.Multipliers d plan multipliers text = TellsMultipliers d multipliers text
TellsShown shows.Proof d plan multipliers text = TellsOptimum d plan multipliers text
TellsShown show d plan multipliers text = ⊤
