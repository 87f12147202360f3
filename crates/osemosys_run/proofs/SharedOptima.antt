-- A plan and multipliers that `solve` writes with the gap 0, each in a file of its own, are accepted by `check` together.
use Rattle.osemosys_run.proofs.Common.{◌≡◌, ◌⊎◌, ℕ, List, inl, inr, Some, refl, subst, Rational, Data, Row, RowName, Var, Place, Fields, all_variables, instances, records_of, model_cost, AreRowsOf, CanBeMade, HasStopped, BookFail, AllPass, Status, Done, SetLists, IsPlan, AreMultipliers, IsPlanFault, IsMultiplierFault, DueForPlan, DueForPlanFile, DueForMultiplierFile, DueForCheck, HasNoRows, Wanted, SolveMethod, Exact, Rounded, DueBy, DueForEnd, DueForRows, DueForSolve, DueForSolveFrom, DueFrom, wanted_by, rows-due}
use Rattle.row_book.specs.declared.fail.BookFail.TheVariants as book
use Rattle.command_answers.specs.Limits.{TellsSize}
use Rattle.command_answers.specs.SolvedPlans.{IsNearOptimum}
use Rattle.command_words.specs.declared.command.SolveShow.{SolveShow}
use Rattle.command_words.specs.declared.command.SolveShow.TheVariants as words
use Rattle.plan_files.specs.declared.faults.PlanFault.{PlanFault}
use Rattle.solver_answers.specs.Told.{Told, Breaks, Lacks, Gives, is_passed, is_value}
use Rattle.std.specs.List.{count_by}
use Rattle.result_tables.specs.declared.attempts.Begun.{Begun}
use Rattle.result_tables.specs.declared.attempts.Begun.TheVariants.{FromNothing, FromValues, WithoutStart}
use Rattle.solve_command.specs.declared.solve.Shown.{Shown}
use Rattle.solve_command.specs.ReadBack.{TellsShown}
use Rattle.solve_command.specs.Shown.{shown_of}
use Rattle.check_command.proofs.AcceptedProofs.{optimum-passes, passed}
use Rattle.check_command.proofs.RowContents.{same-contents, same-plan}
use Rattle.osemosys_run.specs.ShownEnds.{WritesOptimum}
use Rattle.osemosys_run.proofs.LeastCosts.{near-other}

-- what the laws of plan files say
pub record FileLaws : Type 0 where
  pub plan : (sets : SetLists) (vars : List Var) (all : List Fields) (p q : List (Var × Rational)) → IsPlan sets vars all p → IsPlan sets vars all q → p ≡ q
  pub multipliers : (sets : SetLists) (names : List RowName) (all : List Fields) (p q : List (RowName × Rational)) → AreMultipliers sets names all p → AreMultipliers sets names all q → p ≡ q
  pub plan_or_fault : (sets : SetLists) (vars : List Var) (all : List Fields) (p : List (Var × Rational)) (fault : PlanFault) → IsPlan sets vars all p → ¬ (IsPlanFault sets vars all fault)
  pub multipliers_or_fault : (sets : SetLists) (names : List RowName) (all : List Fields) (p : List (RowName × Rational)) (fault : PlanFault) → AreMultipliers sets names all p
      → ¬ (IsMultiplierFault sets names all fault)

-- an optimum over rows of the data, within the gap, and what the text of it tells
pub record TellsBest (gap : ℕ) (shown : Shown) (places : ℕ) (d : Data) (text : List ℕ) : Type 0 where
  pub made : CanBeMade places d 0 (instances d)
  pub rows : List Row
  pub are_rows : AreRowsOf places d (instances d) rows
  pub plan : List (Var × Rational)
  pub multipliers : List (RowName × Rational)
  pub cost : Rational
  pub bound : Rational
  pub near : IsNearOptimum places d rows gap plan multipliers cost bound
  pub told : TellsShown shown d plan multipliers text

-- ---- from what is due to the optimum

module _ (gap : ℕ) (shown : Shown) (places : ℕ) (d : Data) (rounded : ℕ) (text : List ℕ) where
  module _ (pivots : ℕ) (made : CanBeMade places d 0 (instances d)) (rows : List Row) (are : AreRowsOf places d (instances d) rows) where
    abbrev wanted : SolveMethod → Begun → Wanted
    wanted method begun = record { gap = gap; pivots = pivots; show = shown; method = method; begun = begun }

    of : (plan : List (Var × Rational)) (multipliers : List (RowName × Rational)) (cost bound : Rational) → IsNearOptimum places d rows gap plan multipliers cost bound
        → TellsShown shown d plan multipliers text → TellsBest gap shown places d text
    of plan multipliers cost bound near told =
        record { made = made; rows = rows; are_rows = are; plan = plan; multipliers = multipliers; cost = cost; bound = bound; near = near; told = told }

    of-end : (method : SolveMethod) (begun : Begun) → DueForEnd places d rows (wanted method begun) rounded Done text → TellsBest gap shown places d text
    of-end method begun (inl solved) = of solved.plan solved.multipliers solved.cost solved.bound solved.optimum.near solved.told
    of-end method begun (inr (inl infeasible)) = absurd (cc infeasible.0.status_is)
    of-end method begun (inr (inr (inl unbounded))) = absurd (cc unbounded.0.status_is)
    of-end method begun (inr (inr (inr (inl out)))) = absurd (cc out.status_is)
    of-end method begun (inr (inr (inr (inr (inl wide))))) = absurd (cc wide.status_is)
    of-end method begun (inr (inr (inr (inr (inr (inl wide)))))) = absurd (cc wide.status_is)
    of-end method begun (inr (inr (inr (inr (inr (inr second)))))) = of second.found.plan second.found.multipliers second.found.cost second.found.bound second.optimum second.told

    of-method : (method asked : SolveMethod) (begun : Begun) → DueBy method places d rows (wanted asked begun) rounded Done text → TellsBest gap shown places d text
    of-method Exact asked begun due = of-end asked begun due
    of-method Rounded asked begun (inl found) = of found.plan found.multipliers found.cost found.bound found.optimum found.told
    of-method Rounded asked begun (inr (inl infeasible)) = absurd (cc infeasible.0.status_is)
    of-method Rounded asked begun (inr (inr due)) = of-end asked begun due

    no-size : (method : SolveMethod) (rows columns : ℕ) → TellsSize method pivots rows columns Done text → ⊥
    no-size Exact rows columns told = cc told.0
    no-size Rounded rows columns told = cc told.0

    of-rows : (method : SolveMethod) (begun : Begun) → DueForRows places d rows (wanted method begun) rounded Done text → TellsBest gap shown places d text
    of-rows method begun due = elim (rows-due places d rows (wanted method begun) rounded Done text due) [
      | inl large ↦ absurd (no-size method _ _ large.told)
      | inr by ↦ of-method method method begun by
    ]

    of-start : (told : Told) (method : SolveMethod) → DueFrom told places d rows (wanted method FromNothing) rounded Done text → TellsBest gap shown places d text
    of-start (Breaks number) method due = absurd (cc due.0)
    of-start Lacks method due = of-rows method WithoutStart due
    of-start (Gives founds) method due = of-rows method (FromValues (count_by is_value founds) (count_by is_passed founds)) due

  no-rows : HasNoRows places d Done text → ⊥
  no-rows (inl wide) = cc wide.status_is
  no-rows (inr many) = cc many.status_is

pub best-by : (gap : ℕ) (show : SolveShow) (places rounded : ℕ) (d : Data) (text : List ℕ) (pivots : ℕ) (method : SolveMethod)
    → DueForSolve places (wanted_by gap pivots show method) rounded d Done text ⊎ ((start : List ℕ) × DueForSolveFrom places (wanted_by gap pivots show method) start rounded d Done text)
    → TellsBest gap (shown_of show) places d text
best-by gap show places rounded d text pivots method (inl (inl made)) = of-rows gap (shown_of show) places d rounded text pivots made.made made.rows made.are_rows method FromNothing made.due
best-by gap show places rounded d text pivots method (inl (inr none)) = absurd (no-rows gap (shown_of show) places d rounded text none)
best-by gap show places rounded d text pivots method (inr (start, inl made)) =
    of-start gap (shown_of show) places d rounded text pivots made.made made.rows made.are_rows made.due.0 method made.due.2
best-by gap show places rounded d text pivots method (inr (start, inr none)) = absurd (no-rows gap (shown_of show) places d rounded text none)

-- ---- and to what `check` says of both files

pub width-or-memory : (place : Place) → book.Width place ≡ book.Memory → ⊥
width-or-memory place e = cc e

pub many-or-memory : book.TooManyEntries ≡ book.Memory → ⊥
many-or-memory e = cc e

module _ (laws : FileLaws) (made_law : (places : ℕ) (d : Data) (before : ℕ) (names : List RowName) (fail : BookFail) → CanBeMade places d before names → HasStopped places d before names fail → fail ≡ book.Memory)
    (places gap : ℕ) (d : Data) (plan_file multiplier_file : List ℕ) (one : TellsBest 0 (shown_of words.Plan) places d plan_file) (two : TellsBest 0 (shown_of words.Multipliers) places d multiplier_file)
    (status : Status) (text : List ℕ) where
  module _ (rows : List Row) (are : AreRowsOf places d (instances d) rows) where
    both : DueForPlan places d rows one.plan (Some two.told.kept) gap status text → status ≡ Done
    both due =
        passed places d rows one.plan two.told.kept gap status text
        (optimum-passes places d gap two.rows rows two.are_rows are two.multipliers two.told.kept two.told.same one.plan one.cost two.bound
        (subst AllPass (same-plan one.rows rows (same-contents places d (instances d) one.rows rows one.are_rows are) model_cost (all_variables d) one.plan) one.near.checked.pass)
        one.near.checked.cost_is two.near.proved
        (near-other places d gap one.rows two.rows one.plan two.plan one.multipliers two.multipliers one.cost one.bound two.cost two.bound one.near two.near))
        due

    with-multipliers : DueForMultiplierFile places d rows one.plan (Some multiplier_file) gap status text → status ≡ Done
    with-multipliers (inl (bytes, is, refused)) =
        let same : multiplier_file ≡ bytes = cc is in
        absurd (laws.multipliers_or_fault d.sets (instances d) (records_of bytes) two.told.kept refused.fault
        (subst (λ (bs : List ℕ). AreMultipliers d.sets (instances d) (records_of bs) two.told.kept) same two.told.read) refused.first)
    with-multipliers (inr (multipliers, (told, is, read), due)) =
        let same : told ≡ two.told.kept = laws.multipliers d.sets (instances d) (records_of multiplier_file) told two.told.kept read two.told.read in
        both (subst (λ (ms : List (RowName × Rational)). DueForPlan places d rows one.plan (Some ms) gap status text) same
        (subst (λ ms. DueForPlan places d rows one.plan ms gap status text) is due))

    with-plan : DueForPlanFile places d rows plan_file (Some multiplier_file) gap status text → status ≡ Done
    with-plan (inl refused) = absurd (laws.plan_or_fault d.sets (all_variables d) (records_of plan_file) one.plan refused.fault one.told refused.first)
    with-plan (inr (plan, read, due)) =
        let same : plan ≡ one.plan = laws.plan d.sets (all_variables d) (records_of plan_file) plan one.plan read one.told in
        with-multipliers (subst (λ (p : List (Var × Rational)). DueForMultiplierFile places d rows p (Some multiplier_file) gap status text) same due)

  of-check : DueForCheck places plan_file (Some multiplier_file) gap d status text → status ≡ Done
  of-check (inl made) = with-plan made.rows made.are_rows made.due
  of-check (inr (inl wide)) = absurd (width-or-memory (Place.Row wide.name) (made_law places d 0 (instances d) (book.Width (Place.Row wide.name)) one.made (wide.name, refl, wide.wide)))
  of-check (inr (inr many)) = absurd (many-or-memory (made_law places d 0 (instances d) book.TooManyEntries one.made (many.name, many.many)))

pub files-accepted : (laws : FileLaws) → ((places : ℕ) (d : Data) (before : ℕ) (names : List RowName) (fail : BookFail) → CanBeMade places d before names → HasStopped places d before names fail → fail ≡ book.Memory)
    → (places gap rounded also : ℕ) (d : Data) (plan_file multiplier_file : List ℕ) (status : Status) (text : List ℕ) → WritesOptimum words.Plan places rounded d plan_file
    → WritesOptimum words.Multipliers places also d multiplier_file → DueForCheck places plan_file (Some multiplier_file) gap d status text → status ≡ Done
files-accepted laws made_law places gap rounded also d plan_file multiplier_file status text one two due =
    of-check laws made_law places gap d plan_file multiplier_file (best-by 0 words.Plan places rounded d plan_file one.pivots one.method one.due) (best-by 0 words.Multipliers places also d multiplier_file two.pivots two.method two.due) status text due
