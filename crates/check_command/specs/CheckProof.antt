-- What `check` says over accepted data of a proof: the first rule that its file breaks, the first condition that fails, the place of the first number that
-- doesn't fit, or what is shown: a plan and a bound near its cost, that there is no plan, or that plans of any lower cost exist.
use Rattle.std.specs.Prelude.{◌≡◌, ℕ, List, ◌++◌, ◌⊎◌, Some, codes}
use Rattle.exact_num.specs.Rational.{Rational}
use Rattle.model_sets.specs.Data.{Data}
use Rattle.mps_writer.specs.MpsText.{line}
use Rattle.row_core.specs.declared.Row.{Row}
use Rattle.row_core.specs.declared.RowName.{RowName}
use Rattle.row_core.specs.declared.Var.{Var}
use Rattle.named_equations.specs.Existence.{all_variables}
use Rattle.named_equations.specs.Instances.{instances}
use Rattle.certificate_checker.specs.declared.verdicts.Rejection.{Rejection}
use Rattle.certificate_checker.specs.Conditions.{Condition, AllPass, FailsFor}
use Rattle.certificate_checker.specs.Costs.{model_cost}
use Rattle.certificate_checker.specs.MultiplierChecks.{infeasible_conditions}
use Rattle.certificate_checker.specs.PlanChecks.{direction_conditions, plan_conditions}
use Rattle.certificate_checker.specs.Reasons.{reason_of}
use Rattle.plan_files.specs.declared.faults.PlanFault.{PlanFault}
use Rattle.plan_files.specs.Files.{records_of}
use Rattle.proof_files.specs.declared.proof.Proof.{Proof}
use Rattle.proof_files.specs.declared.proof.Proof.TheVariants.{Optimum, Refutation, Descent}
use Rattle.proof_files.specs.Proofs.{IsProof, IsProofFault}
use Rattle.command_answers.specs.declared.status.Status.{Status}
use Rattle.command_answers.specs.declared.status.Status.TheVariants.{Done, Refused, Rejected}
use Rattle.command_answers.specs.declared.status.Refusal.TheVariants.{ProofFile}
use Rattle.command_answers.specs.CheckedPlans.{AreFeasible, NoneIsFeasible}
use Rattle.command_answers.specs.MadeRows.{IsMadeFor, IsTooLarge, IsUncertified}
use Rattle.command_answers.specs.PlanFaultLines.{proof_fault_line}
use Rattle.command_answers.specs.SolvedPlans.{HasNoLeastCost}
use Rattle.check_command.specs.Check.{DueForPlan, IsTooWideToCheck, plan_cost}
use Rattle.check_command.specs.CheckLines.{rejected_line}

-- ---- conditions in turn, and what it is worth that all hold

-- all hold
pub record IsShown (cs : List Condition) (Worth : Type 0) (said : List ℕ) (status : Status) (text : List ℕ) : Type 0 where
  pub pass : AllPass cs
  pub worth : Worth
  pub status_is : status ≡ Done
  pub text_is : text ≡ line said

-- the first that fails is this one
pub record IsNotShown (d : Data) (cs : List Condition) (status : Status) (text : List ℕ) : Type 0 where
  pub rejection : Rejection
  pub fails : FailsFor cs (reason_of rejection)
  pub status_is : status ≡ Rejected rejection
  pub line_is : text ≡ rejected_line d.sets rejection

-- what is due of conditions, where it is worth so much that all hold, and this is said of it
abbrev pub DueForConditions : Data → List Condition → Type 0 → List ℕ → Status → List ℕ → Type 0
DueForConditions d cs Worth said status text = IsShown cs Worth said status text ⊎ IsNotShown d cs status text ⊎ IsTooWideToCheck d cs status text

-- ---- a refutation: its multipliers' signs, the columns at no cost, and last that the bound is above 0

abbrev pub refutation_conditions : Data → List Row → List (RowName × Rational) → List Condition
refutation_conditions d rows multipliers = infeasible_conditions rows (all_variables d) multipliers

abbrev pub DueForRefutation : ℕ → Data → List Row → List (RowName × Rational) → Status → List ℕ → Type 0
DueForRefutation places d rows multipliers = DueForConditions d (refutation_conditions d rows multipliers) (NoneIsFeasible places d) (codes "accepted infeasible")

-- ---- a plan and a direction: the plan's conditions, then the rows and signs of the direction, and last that its cost is below 0

abbrev pub descent_conditions : Data → List Row → List (Var × Rational) → List (Var × Rational) → List Condition
descent_conditions d rows plan direction = plan_conditions model_cost rows (all_variables d) plan ++ direction_conditions model_cost rows (all_variables d) direction

-- the plan is feasible, and whichever whole number is taken, some plan costs less
pub record IsEndless (places : ℕ) (d : Data) (plan : List (Var × Rational)) : Type 0 where
  pub feasible : AreFeasible places d plan (plan_cost d plan)
  pub endless : HasNoLeastCost places d

abbrev pub DueForDescent : ℕ → Data → List Row → List (Var × Rational) → List (Var × Rational) → Status → List ℕ → Type 0
DueForDescent places d rows plan direction = DueForConditions d (descent_conditions d rows plan direction) (IsEndless places d plan) (codes "accepted unbounded")

-- ---- a proof that was read

abbrev pub DueForProofTold : ℕ → Data → List Row → ℕ → Proof → Status → List ℕ → Type 0
DueForProofTold places d rows gap (Optimum plan multipliers) status text = DueForPlan places d rows plan (Some multipliers) gap status text
DueForProofTold places d rows gap (Refutation multipliers) status text = DueForRefutation places d rows multipliers status text
DueForProofTold places d rows gap (Descent plan direction) status text = DueForDescent places d rows plan direction status text

-- ---- the file

-- it breaks this rule first
pub record RefusesProof (d : Data) (bytes : List ℕ) (status : Status) (text : List ℕ) : Type 0 where
  pub fault : PlanFault
  pub first : IsProofFault d.sets (all_variables d) (instances d) (records_of bytes) fault
  pub status_is : status ≡ Refused (ProofFile fault)
  pub line_is : text ≡ proof_fault_line d.sets fault

abbrev pub DueForProofFile : ℕ → Data → List Row → List ℕ → ℕ → Status → List ℕ → Type 0
DueForProofFile places d rows bytes gap status text =
    RefusesProof d bytes status text
    ⊎ ((proof : Proof) × IsProof d.sets (all_variables d) (instances d) (records_of bytes) proof × DueForProofTold places d rows gap proof status text)

-- What is due over these data, for the file of a proof, and a gap in millionths.
abbrev pub DueForProof : ℕ → List ℕ → ℕ → Data → Status → List ℕ → Type 0
DueForProof places bytes gap d status text =
    IsMadeFor places d (λ rows. DueForProofFile places d rows bytes gap status text)
    ⊎ IsUncertified places d status text ⊎ IsTooLarge places d status text
