-- A file that can be written is, and a plan that can be accepted is: what is due for them is that.
use Rattle.osemosys_run.proofs.Common.{Source, SolveMethod, ◌≡◌, ◌⊎◌, ◌<◌, ◌<ℤ◌, ◌++◌, ℕ, ℤ, pos, inl, inr, List, Option, Some, None, refl, ap, sym, ◌∙◌, subst, arith, ints, same_Some, Rational, whole, first_wide, Data, SetLists, Row, Var, row_name_cmp, var_cmp, value_in, all_variables, steps, cost_entries, model_cost, reason_of, bound-over, AreMultipliers, IsMultiplierFault, IsPlan, IsPlanFault, Fields, records_of, Proof, IsProof, IsProofFault, instances, RowName, Place, AreRowsOf, CanBeMade, HasStopped, BookFail, Status, Done, Accepted, IsWithinLimits, PassesLimits, DueBySize, HasNoRows, AreInGap, CanBeAccepted, CanBeWritten, DueForText, DueForCheck, DueForMultiplierFile, DueForPlan, DueForPlanFile, IsRejected, TellsMultipliers, check_conditions, multiplier_bound, plan_cost, DueForEquations, DueWhereNotAccepted}
use Rattle.row_core.proofs.EvaluatedLaws.{sum-IsOver}
use Rattle.named_equations.specs.Plans.{Feasible}
use Rattle.certificate_checker.specs.declared.verdicts.Verdict.TheVariants as verdicts
use Rattle.certificate_checker.specs.Plans.{AreValuesOver}
use Rattle.certificate_checker.proofs.CertificateMeaning.{bound_no}
use Rattle.certificate_checker.proofs.GapLaws.{gap_no}
use Rattle.row_core.proofs.SumLaws.{IsOver-zero}
use Rattle.plan_files.specs.declared.faults.PlanFault.{PlanFault}
use Rattle.row_book.specs.declared.fail.BookFail.TheVariants as book
use Rattle.check_command.proofs.OutcomeLaws.{fails-parts, of_bound, of_gap, of_plan}

-- what the laws of acceptance, of files of plans and proofs, and of the book say
pub record Laws : Type 0 where
  pub one_data : (source : Source) (d e : Data) → Accepted source d → Accepted source e → d ≡ e
  pub one_count : (source : Source) (d e : Data) (a : Accepted source d) (b : Accepted source e) → a.rounded ≡ b.rounded
  pub not_both : (source : Source) (d : Data) (status : Status) (line : List ℕ) → Accepted source d → DueWhereNotAccepted source status line → ⊥
  pub one_plan : (sets : SetLists) (vars : List Var) (all : List Fields) (p q : List (Var × Rational)) → IsPlan sets vars all p → IsPlan sets vars all q → p ≡ q
  pub one_multipliers : (sets : SetLists) (names : List RowName) (all : List Fields) (p q : List (RowName × Rational)) → AreMultipliers sets names all p → AreMultipliers sets names all q → p ≡ q
  pub plan_or_fault : (sets : SetLists) (vars : List Var) (all : List Fields) (p : List (Var × Rational)) (fault : PlanFault) → IsPlan sets vars all p → ¬ (IsPlanFault sets vars all fault)
  pub multipliers_or_fault : (sets : SetLists) (names : List RowName) (all : List Fields) (p : List (RowName × Rational)) (fault : PlanFault) → AreMultipliers sets names all p → ¬ (IsMultiplierFault sets names all fault)
  pub one_proof : (sets : SetLists) (vars : List Var) (names : List RowName) (all : List Fields) (p q : Proof) → IsProof sets vars names all p → IsProof sets vars names all q → p ≡ q
  pub proof_or_fault : (sets : SetLists) (vars : List Var) (names : List RowName) (all : List Fields) (p : Proof) (fault : PlanFault) → IsProof sets vars names all p → ¬ (IsProofFault sets vars names all fault)
  pub made : (places : ℕ) (d : Data) (before : ℕ) (names : List RowName) (fail : BookFail) → CanBeMade places d before names → HasStopped places d before names fail → fail ≡ book.Memory

width_or_memory : (place : Place) → book.Width place ≡ book.Memory → ⊥
width_or_memory place e = cc e

many_or_memory : book.TooManyEntries ≡ book.Memory → ⊥
many_or_memory e = cc e

pub equations_done : Laws → (places : ℕ) (d : Data) (status : Status) (text : List ℕ) → CanBeMade places d 0 (instances d) → DueForEquations places d status text → status ≡ Done
equations_done laws places d status text can (inl written) = written.status_is
equations_done laws places d status text can (inr (inl wide)) =
    absurd (width_or_memory (Place.Row wide.name) (laws.made places d 0 (instances d) (book.Width (Place.Row wide.name)) can (wide.name, refl, wide.wide)))
equations_done laws places d status text can (inr (inr many)) = absurd (many_or_memory (laws.made places d 0 (instances d) book.TooManyEntries can (many.name, many.many)))

-- of rows that can be made, and of a linear program that isn't too large, nothing else is due than what a command has of it
module _ (laws : Laws) (places : ℕ) (d : Data) (can_make : CanBeMade places d 0 (instances d)) where
  pub no_rows : (status : Status) (text : List ℕ) → HasNoRows places d status text → status ≡ Done
  no_rows status text none = equations_done laws places d status text can_make (inr none)

  module _ (within : (rows : List Row) → AreRowsOf places d (instances d) rows → IsWithinLimits rows (all_variables d)) where
    pub not_too_large : (method : SolveMethod) (pivots : ℕ) (rows : List Row) → AreRowsOf places d (instances d) rows → (status : Status) (text : List ℕ) → PassesLimits method pivots rows (all_variables d) status text → ⊥
    not_too_large method pivots rows are status text large =
        let limits = within rows are in
        elim large.passed [ inl many ↦ omega (arith, many, limits.0) | inr many ↦ omega (arith, many, limits.1) ]

    pub found_or_due : (method : SolveMethod) (pivots : ℕ) (Found Over : Status → List ℕ → Type 0) (rows : List Row) → AreRowsOf places d (instances d) rows → (status : Status) (text : List ℕ) → DueBySize method pivots Found Over rows (all_variables d) status text
        → Found status text ⊎ Over status text
    found_or_due method pivots Found Over rows are status text (inl found) = inl found
    found_or_due method pivots Found Over rows are status text (inr (inl large)) = absurd (not_too_large method pivots rows are status text large)
    found_or_due method pivots Found Over rows are status text (inr (inr due)) = inr due.1

-- over an accepted data file nothing else is due than over its data
pub over_accepted : Laws → (Over : ℕ → Data → Status → List ℕ → Type 0) (source : Source) (d : Data) (status : Status) (text : List ℕ) → (accepted : Accepted source d)
    → DueForText Over source status text → Over accepted.rounded d status text
over_accepted laws Over source d status text accepted (inl refused) = absurd (laws.not_both source d status text accepted refused)
over_accepted laws Over source d status text accepted (inr said) =
    subst (λ (e : Data). Over accepted.rounded e status text) (laws.one_data source said.0 d said.1 accepted)
    (subst (λ (n : ℕ). Over n said.0 status text) (laws.one_count source said.0 d said.1 accepted) said.2)

-- ---- checking

-- multipliers are told once, and where they are told their file isn't refused
one_told : Laws → (d : Data) (bytes : Option (List ℕ)) (m n : Option (List (RowName × Rational))) → TellsMultipliers d bytes m → TellsMultipliers d bytes n → m ≡ n
one_told laws d None m n h k = h ∙ sym k
one_told laws d (Some bytes) m n h k = h.1 ∙ ap Some (laws.one_multipliers d.sets (instances d) (records_of bytes) h.0 k.0 h.2 k.2) ∙ sym k.1

none_refused : Laws → (d : Data) (file : Option (List ℕ)) (multipliers : Option (List (RowName × Rational))) (bytes : List ℕ) (fault : PlanFault) → file ≡ Some bytes → TellsMultipliers d file multipliers
    → IsMultiplierFault d.sets (instances d) (records_of bytes) fault → ⊥
none_refused laws d None multipliers bytes fault is told first = cc is
none_refused laws d (Some found) multipliers bytes fault is told first =
    laws.multipliers_or_fault d.sets (instances d) (records_of found) told.0 fault told.2
    (subst (λ (b : List ℕ). IsMultiplierFault d.sets (instances d) (records_of b) fault) (sym (same_Some found bytes is)) first)

positive_of : (s : ℕ) → 0 < s → pos 0 <ℤ pos s
positive_of s h = omega (arith, ints)

module _ (places : ℕ) (d : Data) (rows : List Row) (are_rows : AreRowsOf places d (instances d) rows) (plan : List (Var × Rational))
    (feasible : (q : ℕ) × (x : Var → ℤ) × AreValuesOver q x plan × Feasible places d q x) where
  over : AreValuesOver feasible.0 feasible.1 plan
  over = feasible.2

  cost-positive : pos 0 <ℤ (plan_cost d plan).bottom
  cost-positive =
      (sum-IsOver (pos feasible.0) feasible.1 (value_in var_cmp plan) (whole (pos 0)) (pos 0) (cost_entries model_cost (all_variables d)) over.1
      (IsOver-zero (pos feasible.0))).positive

  -- nothing is rejected of a feasible plan, and of multipliers that prove their bound and keep the gap
  nothing-rejected : (multipliers : Option (List (RowName × Rational))) (gap : ℕ) (status : Status) (text : List ℕ) → AreInGap d rows plan multipliers gap
      → IsRejected places d rows plan multipliers gap status text → ⊥
  nothing-rejected None gap status text kept rejected = rejected.infeasible rejected.fails feasible.0 feasible.1 feasible.2 feasible.3
  nothing-rejected (Some multipliers) gap status text kept rejected =
      let reason = reason_of rejected.rejection in
      elim (fails-parts (of_plan d rows plan) (of_bound d rows multipliers ++ of_gap d rows plan multipliers gap) reason rejected.fails) [
        | inl fails ↦ rejected.infeasible fails feasible.0 feasible.1 feasible.2 feasible.3
        | inr later ↦ elim (fails-parts (of_bound d rows multipliers) (of_gap d rows plan multipliers gap) reason later.1) [
          | inl fails ↦ bound_no rows (all_variables d) multipliers kept.0.0 kept.0.1 kept.0.2 model_cost (verdicts.No rejected.rejection) fails kept.0.3
          | inr last ↦ gap_no (plan_cost d plan) (multiplier_bound rows multipliers) gap cost-positive (bound-over kept.0.0 kept.0.1 (value_in row_name_cmp multipliers) (positive_of kept.0.0 kept.0.2.0) kept.0.2.1 rows).positive (verdicts.No rejected.rejection) last.1 kept.1
        ]
      ]

  pub plan_done : (multipliers : Option (List (RowName × Rational))) (gap : ℕ) (status : Status) (text : List ℕ) → AreInGap d rows plan multipliers gap
      → first_wide (steps (check_conditions d rows plan multipliers gap)) ≡ None → DueForPlan places d rows plan multipliers gap status text → status ≡ Done
  plan_done multipliers gap status text kept fit (inl accepted) = accepted.status_is
  plan_done multipliers gap status text kept fit (inr (inl rejected)) = absurd (nothing-rejected multipliers gap status text kept rejected)
  plan_done multipliers gap status text kept fit (inr (inr wide)) = absurd (cc (sym fit ∙ wide.wide))

pub written : Laws → (places : ℕ) (source : Source) (status : Status) (text : List ℕ) → CanBeWritten places source → DueForText (λ rounded. DueForEquations places) source status text → status ≡ Done
written laws places source status text can due =
    equations_done laws places can.d status text can.made (over_accepted laws (λ rounded. DueForEquations places) source can.d status text can.accepted due)

-- over data of which the rows can be made, with a feasible plan
module _ (laws : Laws) (gap places : ℕ) (source : Source) (plan_bytes : List ℕ) (multiplier_bytes : Option (List ℕ)) (status : Status) (text : List ℕ) (can : CanBeAccepted gap places source plan_bytes multiplier_bytes) where
  plan_accepted : (rows : List Row) → AreRowsOf places can.d (instances can.d) rows → (multipliers : Option (List (RowName × Rational))) → TellsMultipliers can.d multiplier_bytes multipliers
      → DueForPlan places can.d rows can.plan multipliers gap status text → status ≡ Done
  plan_accepted rows are multipliers told due =
      let same : multipliers ≡ can.multipliers = one_told laws can.d multiplier_bytes multipliers can.multipliers told can.multipliers_told in
      plan_done places can.d rows are can.plan can.feasible can.multipliers gap status text (can.in_gap rows are) (can.fit rows are)
      (subst (λ (m : Option (List (RowName × Rational))). DueForPlan places can.d rows can.plan m gap status text) same due)

  multipliers_accepted : (rows : List Row) → AreRowsOf places can.d (instances can.d) rows → DueForMultiplierFile places can.d rows can.plan multiplier_bytes gap status text → status ≡ Done
  multipliers_accepted rows are (inl refused) =
      absurd (none_refused laws can.d multiplier_bytes can.multipliers refused.0 refused.2.fault refused.1 can.multipliers_told refused.2.first)
  multipliers_accepted rows are (inr read) = plan_accepted rows are read.0 read.1 read.2

  files_accepted : (rows : List Row) → AreRowsOf places can.d (instances can.d) rows → DueForPlanFile places can.d rows plan_bytes multiplier_bytes gap status text → status ≡ Done
  files_accepted rows are (inl refused) = absurd (laws.plan_or_fault can.d.sets (all_variables can.d) (records_of plan_bytes) can.plan refused.fault can.plan_told refused.first)
  files_accepted rows are (inr read) =
      multipliers_accepted rows are
      (subst (λ (p : List (Var × Rational)). DueForMultiplierFile places can.d rows p multiplier_bytes gap status text)
      (laws.one_plan can.d.sets (all_variables can.d) (records_of plan_bytes) read.0 can.plan read.1 can.plan_told) read.2)

  data_accepted : DueForCheck places plan_bytes multiplier_bytes gap can.d status text → status ≡ Done
  data_accepted (inl made) = files_accepted made.rows made.are_rows made.due
  data_accepted (inr (inl wide)) = equations_done laws places can.d status text can.made (inr (inl wide))
  data_accepted (inr (inr many)) = equations_done laws places can.d status text can.made (inr (inr many))

  pub accepted : DueForText (λ rounded. DueForCheck places plan_bytes multiplier_bytes gap) source status text → status ≡ Done
  accepted due = data_accepted (over_accepted laws (λ rounded. DueForCheck places plan_bytes multiplier_bytes gap) source can.d status text can.accepted due)
