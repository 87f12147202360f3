-- From the verdicts of the checks of a proof over a book of rows to what they are worth over the named equations.
use Rattle.check_command.proofs.Common.{◌≡◌, ℕ, ℤ, List, ◌++◌, inl, inr, ap, sym, ◌∙◌, subst, AllByRecursion, Rational, Data, SetLists, Row, RowName, Var, Place, PlanFault, Fields, IsListedVariable, IsProofFault, Rejection, Violates, WrongSign, WrongMultiplier, Column, NotNegative, NotPositive, GapPassed, Verdict, Yes, No, Width, AdmitsNone, CostsLess, AllPass, Condition, FailsFor, IsWideAt, model_cost, infeasible_conditions, direction_conditions, plan_conditions, reason_of, IsVerdict, OnYes, wide_before, Status, uncertified_line, AreFeasible, IsBookOf, NoneIsFeasible, FaultIsWithin, RejectionIsWithin, none-feasible, vars-are, CanBeSaid, rejected_line, plan_cost, DueForConditions, IsEndless, descent_conditions, refutation_conditions, IsJudged, TellsVerdict}
use Rattle.proof_files.specs.ProofRecords.{proof_names}
use Rattle.simplex_core.specs.declared.stops.Stop.TheVariants as stops
use Rattle.command_answers.proofs.SolvedRows.{no-least}
use Rattle.check_command.proofs.CheckFiles.{first-within, found-within}
use Rattle.check_command.proofs.OutcomeLaws.{fails-after, fails-first, pass-after, wide-after}

-- what the checks of a plan and a bound say can be said
pub said-from_within : (sets : SetLists) (rejection : Rejection) → RejectionIsWithin sets rejection → CanBeSaid sets rejection
said-from_within sets (Violates name amount) within = within
said-from_within sets (WrongSign v) within = within
said-from_within sets (WrongMultiplier name) within = within
said-from_within sets (Column v amount) within = within
said-from_within sets NotNegative within = absurd within
said-from_within sets NotPositive within = absurd within
said-from_within sets (GapPassed amount) within = tt

-- the variable in a fault of the file is one of the sets
pub proof-fault-within : (sets : SetLists) (vars : List Var) (names : List RowName) (all : List Fields) (fault : PlanFault) → AllByRecursion (IsListedVariable sets) vars → IsProofFault sets vars names all fault → FaultIsWithin sets fault
proof-fault-within sets vars names all fault listed (inl breaks) = first-within sets (proof_names sets vars names) all fault breaks
proof-fault-within sets vars names all fault listed (inr missing) = subst (FaultIsWithin sets) (sym missing.misses.missing) (found-within sets _ vars missing.misses.v listed missing.misses.first)

-- ---- plans of any lower cost

module _ (places : ℕ) (d : Data) (rows : List Row) (vars : List Var) (book : IsBookOf places d rows vars) where
  -- the verdict of the direction, where the plan's conditions all hold
  descent-over_vars : (plan direction : List (Var × Rational)) → AllPass (plan_conditions model_cost rows vars plan) → AreFeasible places d plan (plan_cost d plan) → (value : Rational) (verdict : Verdict)
      → IsVerdict (direction_conditions model_cost rows vars direction) value verdict → ((n : ℤ) → OnYes verdict (CostsLess model_cost rows vars n))
      → IsJudged (plan_conditions model_cost rows vars plan ++ direction_conditions model_cost rows vars direction) (IsEndless places d plan) verdict
  descent-over_vars plan direction pass feasible value (Yes cost) answer endless = (
    pass-after (plan_conditions model_cost rows vars plan) (direction_conditions model_cost rows vars direction) pass answer.0,
    record { feasible = feasible; endless = no-least places d rows vars book endless },
  )
  descent-over_vars plan direction pass feasible value (No rejection) answer endless =
      fails-after (plan_conditions model_cost rows vars plan) (direction_conditions model_cost rows vars direction) (reason_of rejection) pass answer
  descent-over_vars plan direction pass feasible value (Width place) answer endless =
      wide-after (plan_conditions model_cost rows vars plan) (direction_conditions model_cost rows vars direction) place pass answer

  pub descent-judged : (plan direction : List (Var × Rational)) → AllPass (plan_conditions model_cost rows vars plan) → AreFeasible places d plan (plan_cost d plan) → (value : Rational) (verdict : Verdict)
      → IsVerdict (direction_conditions model_cost rows vars direction) value verdict → ((n : ℤ) → OnYes verdict (CostsLess model_cost rows vars n))
      → IsJudged (descent_conditions d rows plan direction) (IsEndless places d plan) verdict
  descent-judged plan direction pass feasible value verdict answer endless =
      subst (λ (vs : List Var). IsJudged (plan_conditions model_cost rows vs plan ++ direction_conditions model_cost rows vs direction) (IsEndless places d plan) verdict) (vars-are places d rows vars book)
      (descent-over_vars plan direction pass feasible value verdict answer endless)

  -- the plan's conditions are the first
  pub descent-fails : (plan direction : List (Var × Rational)) (rejection : Rejection) → FailsFor (plan_conditions model_cost rows vars plan) (reason_of rejection) → FailsFor (descent_conditions d rows plan direction) (reason_of rejection)
  descent-fails plan direction rejection fails =
      subst (λ (vs : List Var). FailsFor (plan_conditions model_cost rows vs plan ++ direction_conditions model_cost rows vs direction) (reason_of rejection)) (vars-are places d rows vars book)
      (fails-first (plan_conditions model_cost rows vars plan) (direction_conditions model_cost rows vars direction) (reason_of rejection) fails)

  pub descent-wide : (plan direction : List (Var × Rational)) (place : Place) → IsWideAt (plan_conditions model_cost rows vars plan) place → IsWideAt (descent_conditions d rows plan direction) place
  descent-wide plan direction place wide =
      subst (λ (vs : List Var). IsWideAt (plan_conditions model_cost rows vs plan ++ direction_conditions model_cost rows vs direction) place) (vars-are places d rows vars book)
      (wide_before (plan_conditions model_cost rows vars plan) (direction_conditions model_cost rows vars direction) place wide)

  -- the verdict of multipliers
  refutation-over_vars : (multipliers : List (RowName × Rational)) (value : Rational) (verdict : Verdict) → IsVerdict (infeasible_conditions rows vars multipliers) value verdict → OnYes verdict (AdmitsNone rows vars)
      → IsJudged (infeasible_conditions rows vars multipliers) (NoneIsFeasible places d) verdict
  refutation-over_vars multipliers value (Yes sum) answer none = (answer.0, none-feasible places d rows vars book none)
  refutation-over_vars multipliers value (No rejection) answer none = answer
  refutation-over_vars multipliers value (Width place) answer none = answer

  pub refutation-judged : (multipliers : List (RowName × Rational)) (value : Rational) (verdict : Verdict) → IsVerdict (infeasible_conditions rows vars multipliers) value verdict → OnYes verdict (AdmitsNone rows vars)
      → IsJudged (refutation_conditions d rows multipliers) (NoneIsFeasible places d) verdict
  refutation-judged multipliers value verdict answer none =
      subst (λ (vs : List Var). IsJudged (infeasible_conditions rows vs multipliers) (NoneIsFeasible places d) verdict) (vars-are places d rows vars book) (refutation-over_vars multipliers value verdict answer none)

-- ---- what is due for a verdict

pub due-from_verdict : (d : Data) (cs : List Condition) (Worth : Type 0) (said : List ℕ) (sets : SetLists) (verdict : Verdict) (status : Status) (text : List ℕ) → sets ≡ d.sets
    → IsJudged cs Worth verdict → TellsVerdict sets said verdict status text → DueForConditions d cs Worth said status text
due-from_verdict d cs Worth said sets (Yes value) status text same judged told = inl (record { pass = judged.0; worth = judged.1; status_is = told.0; text_is = told.1 })
due-from_verdict d cs Worth said sets (No rejection) status text same judged told =
    inr (inl (record { rejection = rejection; fails = judged; status_is = told.0; line_is = told.1 ∙ ap (λ (s : SetLists). rejected_line s rejection) same }))
due-from_verdict d cs Worth said sets (Width place) status text same judged told =
    inr (inr (record { place = place; wide = judged; status_is = told.0; line_is = told.1 ∙ ap (λ (s : SetLists). uncertified_line s (stops.Width place)) same }))
