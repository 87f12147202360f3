-- Two proofs that can be accepted are compared: what is due for them is that.
use Rattle.osemosys_run.proofs.Common.{Source, ◌≡◌, ◌⊎◌, ℕ, inl, inr, List, subst, Data, RowName, Var, Rational, all_variables, instances, records_of, Proof, Optimum, IsProof, HasNoRows, Status, Done, DueOfCheck, IsJudged, IsRefused, ComparesProofs, Judged, Written, Which, CheckedBy, DueForCompared, ProvesOptimum}
use Rattle.command_answers.specs.MadeRows.{IsMadeFor}
use Rattle.osemosys_run.proofs.Completeness.{Laws, no_rows, over_accepted}
use Rattle.osemosys_run.proofs.ShownCompleteness.{file_accepted}

-- ---- one scenario

module _ (laws : Laws) (gap places : ℕ) (source : Source) (proof_bytes : List ℕ) (can : ProvesOptimum gap places source proof_bytes) where
  -- what `check` says over the data is that it accepts the proof
  over_data : (status : Status) (text : List ℕ)
      → IsMadeFor places can.d (λ rows. CheckedBy places gap proof_bytes can.d rows status text) ⊎ HasNoRows places can.d status text → status ≡ Done
  over_data status text (inl made) = file_accepted laws gap places source proof_bytes can status text made.rows made.are_rows made.due
  over_data status text (inr none) = no_rows laws places can.d can.made status text none

  said_done : (status : Status) (text : List ℕ) → DueOfCheck places (CheckedBy places gap proof_bytes) source status text → status ≡ Done
  said_done status text due =
      over_data status text
      (over_accepted laws (λ rounded d status text. IsMadeFor places d (λ rows. CheckedBy places gap proof_bytes d rows status text) ⊎ HasNoRows places d status text)
      source can.d status text can.accepted due)

  -- so it isn't refused
  not_refused : (which : Which) (status : Status) (text : List ℕ) → IsRefused places (CheckedBy places gap proof_bytes) source which status text → ⊥
  not_refused which status text refused = refused.not_done (said_done status refused.said refused.due)

  -- and the proof is the one that the files have
  optimum_is : (one : Judged) → IsJudged places (CheckedBy places gap proof_bytes) source proof_bytes one → one.proof ≡ Optimum can.plan can.multipliers
  optimum_is one judged =
      let data_is : one.data_of ≡ can.d = laws.one_data source one.data_of can.d judged.accepted can.accepted in
      laws.one_proof can.d.sets (all_variables can.d) (instances can.d) (records_of proof_bytes) one.proof (Optimum can.plan can.multipliers)
      (subst (λ (d : Data). IsProof d.sets (all_variables d) (instances d) (records_of proof_bytes) one.proof) data_is judged.told) can.told

-- ---- both

of_optima : (written : Written) (one two : Judged) (plan : List (Var × Rational)) (multipliers : List (RowName × Rational)) (plan2 : List (Var × Rational)) (multipliers2 : List (RowName × Rational)) (status : Status) (text : List ℕ)
    → one.proof ≡ Optimum plan multipliers → two.proof ≡ Optimum plan2 multipliers2 → ComparesProofs written one.proof two.proof one two status text → status ≡ Done
of_optima written one two plan multipliers plan2 multipliers2 status text is is2 compares =
    let first = subst (λ (p : Proof). ComparesProofs written p two.proof one two status text) is compares in
    let both = subst (λ (p : Proof). ComparesProofs written (Optimum plan multipliers) p one two status text) is2 first in
    both.status_is

module _ (laws : Laws) (gap : ℕ) (written : Written) (source : Source) (proof_bytes : List ℕ) (source2 : Source) (proof_bytes2 : List ℕ) (can : ProvesOptimum gap written.places source proof_bytes) (can2 : ProvesOptimum gap written.places source2 proof_bytes2)
    (status : Status) (text : List ℕ) where
  pub compared : DueForCompared written gap source proof_bytes source2 proof_bytes2 status text → status ≡ Done
  compared (inl refused) = absurd (not_refused laws gap written.places source proof_bytes can _ status text refused)
  compared (inr (inl second)) = absurd (not_refused laws gap written.places source2 proof_bytes2 can2 _ status text second.refused)
  compared (inr (inr both)) =
      of_optima written both.one both.two can.plan can.multipliers can2.plan can2.multipliers status text
      (optimum_is laws gap written.places source proof_bytes can both.one both.first) (optimum_is laws gap written.places source2 proof_bytes2 can2 both.two both.second) both.compares
