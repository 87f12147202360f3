-- A table and a page of a proof that can be accepted are written: what is due for it is that.
use Rattle.osemosys_run.proofs.Common.{Source, ◌≡◌, Bool, ℕ, inl, inr, List, Some, None, sym, ◌∙◌, subst, same_Some, Row, all_variables, instances, AreRowsOf, records_of, Proof, Optimum, IsProof, Status, Done, DueForText, DueForProofFile, DueForProofTold, DueForShown, DueOverRows, DueForPage, ShowsPage, DueForKnown, DueForTable, ShowsProof, form_of, shown_named, Shown, ProvesOptimum}
use Rattle.result_pages.specs.Pages.{Title}
use Rattle.osemosys_run.proofs.Completeness.{Laws, no_rows, over_accepted, plan_done}

-- ---- any command of the two files

module _ (laws : Laws) (gap places : ℕ) (source : Source) (proof_bytes : List ℕ) (can : ProvesOptimum gap places source proof_bytes) (status : Status) (text : List ℕ) where
  abbrev Told : Proof → Type 0
  Told proof = IsProof can.d.sets (all_variables can.d) (instances can.d) (records_of proof_bytes) proof

  -- the file tells no other proof
  pub same : (proof : Proof) → Told proof → proof ≡ Optimum can.plan can.multipliers
  same proof told = laws.one_proof can.d.sets (all_variables can.d) (instances can.d) (records_of proof_bytes) proof (Optimum can.plan can.multipliers) told can.told

  -- `check` accepts it
  pub file_accepted : (rows : List Row) → AreRowsOf places can.d (instances can.d) rows → DueForProofFile places can.d rows proof_bytes gap status text → status ≡ Done
  file_accepted rows are (inl refused) =
      absurd (laws.proof_or_fault can.d.sets (all_variables can.d) (instances can.d) (records_of proof_bytes) (Optimum can.plan can.multipliers) refused.fault can.told refused.first)
  file_accepted rows are (inr read) =
      plan_done places can.d rows are can.plan can.feasible (Some can.multipliers) gap status text (can.in_gap rows are) (can.fit rows are)
      (subst (λ (p : Proof). DueForProofTold places can.d rows gap p status text) (same read.0 read.1) read.2)

  abbrev Checked : List Row → Status → List ℕ → Type 0
  Checked rows = DueForProofFile places can.d rows proof_bytes gap

  -- so nothing but what is shown of it is due
  module _ (Shows : List Row → List ℕ → Proof → Status → List ℕ → Type 0) (done : (rows : List Row) (said : List ℕ) → Shows rows said (Optimum can.plan can.multipliers) status text → status ≡ Done) where
    rows_shown : (rows : List Row) → AreRowsOf places can.d (instances can.d) rows → DueOverRows (Checked rows) proof_bytes (Shows rows) can.d status text → status ≡ Done
    rows_shown rows are (inl said) = absurd (said.not_done (file_accepted rows are said.checked))
    rows_shown rows are (inr shows) = done rows shows.said (subst (λ (p : Proof). Shows rows shows.said p status text) (same shows.proof shows.told) shows.shows)

    shown_done : DueForShown places Checked proof_bytes Shows can.d status text → status ≡ Done
    shown_done (inl made) = rows_shown made.rows made.are_rows made.due
    shown_done (inr none) = no_rows laws places can.d can.made status text none

  -- ---- `table`

  module _ (name : List ℕ) (exact : Bool) (shown : Shown) (named : shown_named can.d.second name ≡ Some shown) where
    known_shown : DueForKnown places Checked proof_bytes shown (form_of exact) can.d status text → status ≡ Done
    known_shown due = shown_done (λ rows said. ShowsProof places can.d rows shown (form_of exact)) (λ rows said shows. shows.0) due

    table_shown : DueForTable places Checked proof_bytes name (form_of exact) can.d status text → status ≡ Done
    table_shown (inl none) = let no : None ≡ Some shown = sym none.unknown ∙ named in absurd (cc no)
    table_shown (inr (other, other_named, due)) =
        known_shown (subst (λ found. DueForKnown places Checked proof_bytes found (form_of exact) can.d status text) (same_Some other shown (sym other_named ∙ named)) due)

    pub tabled : DueForText (λ rounded d. DueForTable places (λ rows. DueForProofFile places d rows proof_bytes gap) proof_bytes name (form_of exact) d) source status text → status ≡ Done
    tabled due =
        table_shown
        (over_accepted laws (λ rounded d. DueForTable places (λ rows. DueForProofFile places d rows proof_bytes gap) proof_bytes name (form_of exact) d) source can.d status text can.accepted due)

  -- ---- `page`

  pub paged : (title : Title) → DueForText (λ rounded d. DueForPage title rounded places (λ rows. DueForProofFile places d rows proof_bytes gap) proof_bytes d) source status text → status ≡ Done
  paged title due =
      shown_done (λ rows. ShowsPage title can.accepted.rounded places can.d rows) (λ rows said shows. shows.0)
      (over_accepted laws (λ rounded d. DueForPage title rounded places (λ rows. DueForProofFile places d rows proof_bytes gap) proof_bytes d) source can.d status text can.accepted due)
