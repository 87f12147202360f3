-- What `table` and `page` show of a proof that `solve` wrote is of the plan that it was written of.
use Rattle.osemosys_run.proofs.Common.{◌≡◌, ℕ, List, [], inl, inr, Some, refl, sym, ◌∙◌, subst, Data, Row, RowName, Place, all_variables, instances, records_of, AreRowsOf, CanBeMade, HasStopped, BookFail, Status, Done, Proof, Optimum, IsProof, SolveMethod, DueForProofFile, DueForShown, DueOverRows, ProofLaws, optimum-accepted, shown_of, Shown, NumberForm, shown_named, DueForTable, ShowsProof}
use Rattle.row_book.specs.declared.fail.BookFail.TheVariants as book
use Rattle.command_words.specs.declared.command.SolveShow.TheVariants as words
use Rattle.osemosys_run.specs.Accepting.{ProvesEnd}
use Rattle.osemosys_run.specs.ShownEnds.{ShowsWritten}
use Rattle.osemosys_run.proofs.SharedOptima.{TellsBest, best-by, many-or-memory, width-or-memory}

module _ (laws : ProofLaws) (made_law : (places : ℕ) (d : Data) (before : ℕ) (names : List RowName) (fail : BookFail) → CanBeMade places d before names → HasStopped places d before names fail → fail ≡ book.Memory)
    (places gap : ℕ) (d : Data) (some : all_variables d ≡ [] → ⊥) (file : List ℕ) (best : TellsBest gap (shown_of words.Proof) places d file) (status : Status) (text : List ℕ) where
  abbrev told : IsProof d.sets (all_variables d) (instances d) (records_of file) (Optimum best.plan best.told.kept)
  told = best.told.read some

  module _ (Shows : List Row → List ℕ → Proof → Status → List ℕ → Type 0) where
    over-rows : (rows : List Row) → AreRowsOf places d (instances d) rows → DueOverRows (DueForProofFile places d rows file gap) file (Shows rows) d status text → ShowsWritten Shows places gap d file status text
    over-rows rows are (inl not) =
        absurd (not.not_done
        (optimum-accepted laws places d file gap status text best.rows rows best.are_rows are best.multipliers best.told.kept best.told.same best.plan best.cost best.bound best.near.checked best.near.proved
        best.near.gap_kept told not.checked))
    over-rows rows are (inr shown) = record {
      plan = best.plan;
      multipliers = best.told.kept;
      written = record { rows = best.rows; found = best.multipliers; cost = best.cost; bound = best.bound; are_rows = best.are_rows; optimum = best.near; told = told; same = best.told.same };
      rows = rows;
      are_rows = are;
      said = shown.said;
      accepted = shown.accepted;
      shows = subst (λ (p : Proof). Shows rows shown.said p status text)
          (laws.one_proof d.sets (all_variables d) (instances d) (records_of file) shown.proof (Optimum best.plan best.told.kept) shown.told told) shown.shows;
    }

    of-shown : DueForShown places (λ rows. DueForProofFile places d rows file gap) file Shows d status text → ShowsWritten Shows places gap d file status text
    of-shown (inl made) = over-rows made.rows made.are_rows made.due
    of-shown (inr (inl wide)) = absurd (width-or-memory (Place.Row wide.name) (made_law places d 0 (instances d) (book.Width (Place.Row wide.name)) best.made (wide.name, refl, wide.wide)))
    of-shown (inr (inr many)) = absurd (many-or-memory (made_law places d 0 (instances d) book.TooManyEntries best.made (many.name, many.many)))

  of-table : (name : List ℕ) (shown : Shown) (form : NumberForm) → shown_named d.second name ≡ Some shown → DueForTable places (λ rows. DueForProofFile places d rows file gap) file name form d status text
      → ShowsWritten (λ rows said. ShowsProof places d rows shown form) places gap d file status text
  of-table name shown form named (inl unknown) = absurd (cc (sym named ∙ unknown.unknown))
  of-table name shown form named (inr known) =
      let both : Some known.0 ≡ Some shown = sym known.1 ∙ named in
      let same : known.0 ≡ shown = cc in
      subst (λ (s : Shown). ShowsWritten (λ rows said. ShowsProof places d rows s form) places gap d file status text) same
      (of-shown (λ rows said. ShowsProof places d rows known.0 form) known.2)

module _ (laws : ProofLaws) (made_law : (places : ℕ) (d : Data) (before : ℕ) (names : List RowName) (fail : BookFail) → CanBeMade places d before names → HasStopped places d before names fail → fail ≡ book.Memory)
    (places gap pivots : ℕ) (method : SolveMethod) (rounded : ℕ) (d : Data) (some : all_variables d ≡ [] → ⊥) (file : List ℕ) (proves : ProvesEnd places gap pivots method rounded d Done file)
    (status : Status) (text : List ℕ) where
  abbrev best : TellsBest gap (shown_of words.Proof) places d file
  best = best-by gap words.Proof places rounded d file pivots method proves

  pub shows-written : (Shows : List Row → List ℕ → Proof → Status → List ℕ → Type 0) → DueForShown places (λ rows. DueForProofFile places d rows file gap) file Shows d status text
      → ShowsWritten Shows places gap d file status text
  shows-written Shows due = of-shown laws made_law places gap d some file best status text Shows due

  pub table-shows : (name : List ℕ) (shown : Shown) (form : NumberForm) → shown_named d.second name ≡ Some shown → DueForTable places (λ rows. DueForProofFile places d rows file gap) file name form d status text
      → ShowsWritten (λ rows said. ShowsProof places d rows shown form) places gap d file status text
  table-shows name shown form named due = of-table laws made_law places gap d some file best status text name shown form named due
