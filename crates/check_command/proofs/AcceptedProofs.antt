-- What proves an end is accepted: nothing else is due of its file.
use Rattle.check_command.proofs.Common.{◌≡◌, ℕ, ℤ, pos, Bool, true, List, [], ◌∷◌, ◌++◌, map, inl, inr, Some, sym, ap, ◌∙◌, subst, codes, int_lt, Rational, Data, SetLists, Row, RowName, Var, contents_of, row_name_cmp, value_in, all_variables, instances, AreRowsOf, AllPass, Condition, model_cost, no_cost, gap_condition, bound_conditions, bound_value, direction_conditions, plan_conditions, PlanFault, Fields, records_of, Proof, Optimum, Refutation, Descent, IsProof, IsProofFault, Status, Done, DueForPlan, check_conditions, multiplier_bound, plan_cost, DueForConditions, DueForProofFile, DueForProofTold, descent_conditions, refutation_conditions}
use mathlib.Core.Path.{fun_ext}
use Rattle.mps_writer.specs.MpsText.{line}
use Rattle.certified_answers.specs.Worth.{IsBound, IsDescent, IsNear, IsPlan, IsRefutation}
use Rattle.check_command.proofs.OutcomeLaws.{pass-after}
use Rattle.check_command.proofs.RowContents.{conditions_by, same-bound, same-contents, same-direction, same-multipliers, same-plan}

-- what the laws of proof files say
pub record ProofLaws : Type 0 where
  pub one_proof : (sets : SetLists) (vars : List Var) (names : List RowName) (all : List Fields) (p q : Proof) → IsProof sets vars names all p → IsProof sets vars names all q → p ≡ q
  pub proof_or_fault : (sets : SetLists) (vars : List Var) (names : List RowName) (all : List Fields) (p : Proof) (fault : PlanFault) → IsProof sets vars names all p → ¬ (IsProofFault sets vars names all fault)

-- the sum of a bound may be anything, that of a refutation must be positive
abbrev any_sum : ℤ → Bool
any_sum sum = true

abbrev positive_sum : ℤ → Bool
positive_sum sum = int_lt (pos 0) sum

-- ---- where all conditions hold

pub passed : (places : ℕ) (d : Data) (rows : List Row) (plan : List (Var × Rational)) (multipliers : List (RowName × Rational)) (gap : ℕ) (status : Status) (text : List ℕ)
    → AllPass (check_conditions d rows plan (Some multipliers) gap) → DueForPlan places d rows plan (Some multipliers) gap status text → status ≡ Done
passed places d rows plan multipliers gap status text pass (inl accepted) = accepted.status_is
passed places d rows plan multipliers gap status text pass (inr (inl rejected)) = absurd (cc (sym pass.hold ∙ rejected.fails.fails))
passed places d rows plan multipliers gap status text pass (inr (inr wide)) = absurd (cc (sym pass.fit ∙ wide.wide))

said : (d : Data) (cs : List Condition) (Worth : Type 0) (words : List ℕ) (status : Status) (text : List ℕ) → AllPass cs → DueForConditions d cs Worth words status text
    → (status ≡ Done) × (text ≡ line words)
said d cs Worth words status text pass (inl shown) = (shown.status_is, shown.text_is)
said d cs Worth words status text pass (inr (inl not)) = absurd (cc (sym pass.hold ∙ not.fails.fails))
said d cs Worth words status text pass (inr (inr wide)) = absurd (cc (sym pass.fit ∙ wide.wide))

-- multipliers that have the values of some that prove a bound over rows of the same instances
module _ (places : ℕ) (d : Data) (gap : ℕ) (rows others : List Row) (are : AreRowsOf places d (instances d) rows) (so : AreRowsOf places d (instances d) others) (multipliers kept : List (RowName × Rational))
    (alike : (name : RowName) → value_in row_name_cmp kept name ≡ value_in row_name_cmp multipliers name) where
  kept-values : value_in row_name_cmp multipliers ≡ value_in row_name_cmp kept
  kept-values = fun_ext (λ name. sym (alike name))

  bounds : multiplier_bound rows multipliers ≡ multiplier_bound others kept
  bounds = ap (bound_value rows) kept-values ∙ same-bound rows others (same-contents places d (instances d) rows others are so) (value_in row_name_cmp kept)

  -- with a plan whose own conditions hold, and whose cost is near that bound, all conditions hold
  pub optimum-passes : (plan : List (Var × Rational)) (cost bound : Rational) → AllPass (plan_conditions model_cost others (all_variables d) plan) → cost ≡ plan_cost d plan
      → IsBound rows (all_variables d) multipliers bound → IsNear cost bound gap → AllPass (check_conditions d others plan (Some kept) gap)
  optimum-passes plan cost bound pass cost_is proved near =
      pass-after (plan_conditions model_cost others (all_variables d) plan)
      (bound_conditions model_cost others (all_variables d) kept ++ gap_condition (plan_cost d plan) (multiplier_bound others kept) gap ∷ []) pass
      (pass-after (bound_conditions model_cost others (all_variables d) kept) (gap_condition (plan_cost d plan) (multiplier_bound others kept) gap ∷ [])
      (subst AllPass
      (ap (conditions_by any_sum model_cost rows (all_variables d)) kept-values
      ∙ same-multipliers rows others (same-contents places d (instances d) rows others are so) any_sum model_cost (all_variables d) (value_in row_name_cmp kept)) proved.pass)
      (subst (λ (b : Rational). AllPass (gap_condition (plan_cost d plan) b gap ∷ [])) (proved.bound_is ∙ bounds)
      (subst (λ (c : Rational). AllPass (gap_condition c bound gap ∷ [])) cost_is near.pass)))

module _ (laws : ProofLaws) (places : ℕ) (d : Data) (bytes : List ℕ) (gap : ℕ) (status : Status) (text : List ℕ) (rows others : List Row) (are : AreRowsOf places d (instances d) rows)
    (so : AreRowsOf places d (instances d) others) where
  abbrev vars : List Var
  vars = all_variables d

  same : map contents_of rows ≡ map contents_of others
  same = same-contents places d (instances d) rows others are so

  -- of a file that is read, what is due is due of what it is read as
  told-so : (proof : Proof) → IsProof d.sets vars (instances d) (records_of bytes) proof → DueForProofFile places d others bytes gap status text → DueForProofTold places d others gap proof status text
  told-so proof is (inl refused) = absurd (laws.proof_or_fault d.sets vars (instances d) (records_of bytes) proof refused.fault is refused.first)
  told-so proof is (inr read) =
      subst (λ (p : Proof). DueForProofTold places d others gap p status text) (laws.one_proof d.sets vars (instances d) (records_of bytes) read.0 proof read.1 is) read.2

  module _ (multipliers kept : List (RowName × Rational)) (alike : (name : RowName) → value_in row_name_cmp kept name ≡ value_in row_name_cmp multipliers name) where
    values : value_in row_name_cmp multipliers ≡ value_in row_name_cmp kept
    values = fun_ext (λ name. sym (alike name))

    pub optimum-accepted : (plan : List (Var × Rational)) (cost bound : Rational) → IsPlan rows vars plan cost → IsBound rows vars multipliers bound → IsNear cost bound gap
        → IsProof d.sets vars (instances d) (records_of bytes) (Optimum plan kept) → DueForProofFile places d others bytes gap status text → status ≡ Done
    optimum-accepted plan cost bound is proved near told due =
        passed places d others plan kept gap status text
        (optimum-passes places d gap rows others are so multipliers kept alike plan cost bound (subst AllPass (same-plan rows others same model_cost vars plan) is.pass) is.cost_is proved near)
        (told-so (Optimum plan kept) told due)

    pub refutation-accepted : IsRefutation rows vars multipliers → IsProof d.sets vars (instances d) (records_of bytes) (Refutation kept) → DueForProofFile places d others bytes gap status text
        → (status ≡ Done) × (text ≡ line (codes "accepted infeasible"))
    refutation-accepted proved told due =
        said d (refutation_conditions d others kept) _ (codes "accepted infeasible") status text
        (subst AllPass
        (ap (conditions_by positive_sum no_cost rows vars) values ∙ same-multipliers rows others same positive_sum no_cost vars (value_in row_name_cmp kept)) proved.pass)
        (told-so (Refutation kept) told due)

  pub descent-accepted : (plan direction : List (Var × Rational)) (cost : Rational) → IsPlan rows vars plan cost → IsDescent rows vars direction
      → IsProof d.sets vars (instances d) (records_of bytes) (Descent plan direction) → DueForProofFile places d others bytes gap status text
      → (status ≡ Done) × (text ≡ line (codes "accepted unbounded"))
  descent-accepted plan direction cost is descends told due =
      said d (descent_conditions d others plan direction) _ (codes "accepted unbounded") status text
      (pass-after (plan_conditions model_cost others vars plan) (direction_conditions model_cost others vars direction)
      (subst AllPass (same-plan rows others same model_cost vars plan) is.pass) (subst AllPass (same-direction rows others same model_cost vars direction) descends.pass))
      (told-so (Descent plan direction) told due)
