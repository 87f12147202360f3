-- A proof that is kept where the answer to it is that it is accepted, and the answer where it isn't.
use Rattle.check_command.proofs.Common.{◌≡◌, ◌≢◌, ℕ, List, [], ◌∷◌, inr, Result, Ok, Err, sym, subst, MatchResult, AllByRecursion, Rational, Data, SetLists, Row, RowName, Var, all_variables, instances, Fields, records_of, IsListedVariable, Proof, Optimum, Refutation, Descent, IsProof, HasWorth, Status, Done, DueForProofTold}
use Rattle.row_core.specs.NameTexts.{VariableIsWithin}
use Rattle.row_core.specs.Numbers.{keys_of}
use Rattle.proof_files.specs.PlansWithin.{HasPlanWithin}
use Rattle.command_answers.specs.declared.answer.Answer.{Answer}
use Rattle.command_answers.specs.declared.proved.AcceptedProof.{AcceptedProof}
use Rattle.check_command.specs.declared.proof.Judged.{Judged}
use Rattle.check_command.specs.AcceptedProofs.{TellsProof}

-- ---- the plan of a proof is one of the sets

keys_within : (sets : SetLists) (plan : List (Var × Rational)) → AllByRecursion (IsListedVariable sets) (keys_of plan) → AllByRecursion (λ (e : Var × Rational). VariableIsWithin sets e.0) plan
keys_within sets [] all = tt
keys_within sets (e ∷ plan) all = (all.0.1, keys_within sets plan all.1)

pub plan_within : (sets : SetLists) (vars : List Var) (names : List RowName) (all : List Fields) (proof : Proof) → AllByRecursion (IsListedVariable sets) vars → IsProof sets vars names all proof → HasPlanWithin sets proof
plan_within sets vars names all (Optimum plan multipliers) listed is = keys_within sets plan (subst (AllByRecursion (IsListedVariable sets)) (sym is.told.2.whole) listed)
plan_within sets vars names all (Refutation multipliers) listed is = tt
plan_within sets vars names all (Descent plan direction) listed is = tt

-- ---- over rows

module _ (places : ℕ) (bytes : List ℕ) (gap : ℕ) (d : Data) (rows : List Row) where
  pub kept_or_said : (proof : Proof) (judged : Judged) (r : Result AcceptedProof Answer) → IsProof d.sets (all_variables d) (instances d) (records_of bytes) proof → HasPlanWithin d.sets proof
      → DueForProofTold places d rows gap proof judged.answer.status judged.answer.text.items
      → (judged.answer.status ≡ Done → HasWorth d rows proof judged.worth)
      → MatchResult r
      (λ (kept : AcceptedProof). (kept ≡ record { proof = proof; worth = judged.worth; said = judged.answer.text }) × (judged.answer.status ≡ Done))
      (λ said. (said ≡ judged.answer) × (judged.answer.status ≢ Done))
      → TellsProof places bytes gap d rows r
  kept_or_said proof judged (Ok kept) told within due worth (same, done) =
      subst (λ (p : AcceptedProof). TellsProof places bytes gap d rows (Ok p)) (sym same)
      (record {
        due = inr (proof, told, subst (λ (s : Status). DueForProofTold places d rows gap proof s judged.answer.text.items) done due);
        told = told;
        within = within;
        worth = worth done;
      })
  kept_or_said proof judged (Err said) told within due worth (same, other) =
      subst (λ (a : Answer). TellsProof places bytes gap d rows (Err a)) (sym same) (record { due = inr (proof, told, due); not_done = other })
