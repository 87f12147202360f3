-- What `solve` writes to prove an end is accepted by `check`.
use Rattle.osemosys_run.proofs.Common.{◌≡◌, ℕ, List, [], inl, inr, refl, sym, ◌∙◌, codes, Data, line, Row, RowName, Place, all_variables, instances, AreRowsOf, CanBeMade, HasStopped, BookFail, Stop, Status, Done, Infeasible, Refused, Unbounded, Uncertified, HasNoRows, SolveMethod, Exact, Rounded, Unguessed, DueForProof, DueForProofFile, ProofLaws, descent-accepted, optimum-accepted, refutation-accepted, Wanted, wanted_by, DueBy, DueForEnd, DueForRows, DueForSolve, DueForSolveFrom, DueFrom, FromNothing, FromValues, WithoutStart, count_by, StartFile, rows-due}
use Rattle.row_book.specs.declared.fail.BookFail.TheVariants as book
use Rattle.command_answers.specs.Limits.{TellsSize}
use Rattle.command_answers.specs.declared.status.Refusal.{Refusal}
use Rattle.solve_command.specs.declared.solve.Shown.TheVariants.{Proof}
use Rattle.result_tables.specs.declared.attempts.Begun.{Begun}
use Rattle.solver_answers.specs.Told.{Told, Breaks, Lacks, Gives, is_passed, is_value}
use Rattle.command_words.specs.declared.command.SolveShow.TheVariants as words
use Rattle.osemosys_run.specs.Accepting.{AcceptsEnd}

-- which status an end has
ends-solved : (end status : Status) (text : List ℕ) → end ≡ Done → status ≡ Done → AcceptsEnd end status text
ends-solved end status text is done = record {
  solved = λ h. done;
  infeasible = λ h. let e : Done ≡ Infeasible = sym is ∙ h in absurd (cc e);
  unbounded = λ h. let e : Done ≡ Unbounded = sym is ∙ h in absurd (cc e);
}

ends-infeasible : (end status : Status) (text : List ℕ) → end ≡ Infeasible → (status ≡ Done) × (text ≡ line (codes "accepted infeasible")) → AcceptsEnd end status text
ends-infeasible end status text is said = record {
  solved = λ h. let e : Infeasible ≡ Done = sym is ∙ h in absurd (cc e);
  infeasible = λ h. said;
  unbounded = λ h. let e : Infeasible ≡ Unbounded = sym is ∙ h in absurd (cc e);
}

ends-unbounded : (end status : Status) (text : List ℕ) → end ≡ Unbounded → (status ≡ Done) × (text ≡ line (codes "accepted unbounded")) → AcceptsEnd end status text
ends-unbounded end status text is said = record {
  solved = λ h. let e : Unbounded ≡ Done = sym is ∙ h in absurd (cc e);
  infeasible = λ h. let e : Unbounded ≡ Infeasible = sym is ∙ h in absurd (cc e);
  unbounded = λ h. said;
}

-- of another status nothing is said
stopped-so : (end status : Status) (text : List ℕ) (stop : Stop) → end ≡ Uncertified stop → AcceptsEnd end status text
stopped-so end status text stop is = record {
  solved = λ h. let e : Uncertified stop ≡ Done = sym is ∙ h in absurd (cc e);
  infeasible = λ h. let e : Uncertified stop ≡ Infeasible = sym is ∙ h in absurd (cc e);
  unbounded = λ h. let e : Uncertified stop ≡ Unbounded = sym is ∙ h in absurd (cc e);
}

refused-so : (end status : Status) (text : List ℕ) (refusal : Refusal) → end ≡ Refused refusal → AcceptsEnd end status text
refused-so end status text refusal is = record {
  solved = λ h. let e : Refused refusal ≡ Done = sym is ∙ h in absurd (cc e);
  infeasible = λ h. let e : Refused refusal ≡ Infeasible = sym is ∙ h in absurd (cc e);
  unbounded = λ h. let e : Refused refusal ≡ Unbounded = sym is ∙ h in absurd (cc e);
}

unguessed-so : (end status : Status) (text : List ℕ) (pivots : ℕ) → end ≡ Unguessed pivots → AcceptsEnd end status text
unguessed-so end status text pivots is = record {
  solved = λ h. let e : Unguessed pivots ≡ Done = sym is ∙ h in absurd (cc e);
  infeasible = λ h. let e : Unguessed pivots ≡ Infeasible = sym is ∙ h in absurd (cc e);
  unbounded = λ h. let e : Unguessed pivots ≡ Unbounded = sym is ∙ h in absurd (cc e);
}

-- of a size nothing is said either
size-so : (method : SolveMethod) (pivots rows columns : ℕ) (end status : Status) (file text : List ℕ) → TellsSize method pivots rows columns end file → AcceptsEnd end status text
size-so Exact pivots rows columns end status file text told = refused-so end status text _ told.0
size-so Rounded pivots rows columns end status file text told = unguessed-so end status text pivots told.0

width_or_memory : (place : Place) → book.Width place ≡ book.Memory → ⊥
width_or_memory place e = cc e

many_or_memory : book.TooManyEntries ≡ book.Memory → ⊥
many_or_memory e = cc e

module _ (laws : ProofLaws) (made_law : (places : ℕ) (d : Data) (before : ℕ) (names : List RowName) (fail : BookFail) → CanBeMade places d before names → HasStopped places d before names fail → fail ≡ book.Memory)
    (places gap pivots : ℕ) (begun : Begun) (d : Data) (some : all_variables d ≡ [] → ⊥) (rounded : ℕ) (end : Status) (file : List ℕ) (status : Status) (text : List ℕ) where
  -- a proof is wanted
  abbrev to_prove : SolveMethod → Wanted
  to_prove method = record { gap = gap; pivots = pivots; show = Proof; method = method; begun = begun }

  module _ (rows others : List Row) (are : AreRowsOf places d (instances d) rows) (so : AreRowsOf places d (instances d) others) (due : DueForProofFile places d others file gap status text) where
    of_end : (method : SolveMethod) → DueForEnd places d rows (to_prove method) rounded end file → AcceptsEnd end status text
    of_end method (inl solved) =
        ends-solved end status text solved.status_is
        (optimum-accepted laws places d file gap status text rows others are so solved.multipliers solved.told.kept solved.told.same solved.plan solved.cost solved.bound solved.optimum.near.checked
        solved.optimum.near.proved solved.optimum.near.gap_kept (solved.told.read some) due)
    of_end method (inr (inl (infeasible, told))) =
        ends-infeasible end status text infeasible.status_is
        (refutation-accepted laws places d file gap status text rows others are so infeasible.multipliers told.kept told.same infeasible.refuted.proved (told.read some) due)
    of_end method (inr (inr (inl (unbounded, told)))) =
        ends-unbounded end status text unbounded.status_is
        (descent-accepted laws places d file gap status text rows others are so unbounded.plan unbounded.direction unbounded.unbounded.cost unbounded.unbounded.checked unbounded.unbounded.descends (told some) due)
    of_end method (inr (inr (inr (inl out)))) = stopped-so end status text _ out.status_is
    of_end method (inr (inr (inr (inr (inl wide))))) = stopped-so end status text _ wide.status_is
    of_end method (inr (inr (inr (inr (inr (inl wide)))))) = stopped-so end status text _ wide.status_is
    of_end method (inr (inr (inr (inr (inr (inr second)))))) =
        ends-solved end status text second.status_is
        (optimum-accepted laws places d file gap status text rows others are so second.found.multipliers second.told.kept second.told.same second.found.plan second.found.cost second.found.bound second.optimum.checked
        second.optimum.proved second.optimum.gap_kept (second.told.read some) due)

    of_method : (asked method : SolveMethod) → DueBy method places d rows (to_prove asked) rounded end file → AcceptsEnd end status text
    of_method asked Exact of = of_end asked of
    of_method asked Rounded (inl found) =
        ends-solved end status text found.status_is
        (optimum-accepted laws places d file gap status text rows others are so found.multipliers found.told.kept found.told.same found.plan found.cost found.bound found.optimum.checked found.optimum.proved
        found.optimum.gap_kept (found.told.read some) due)
    of_method asked Rounded (inr (inl (infeasible, told))) =
        ends-infeasible end status text infeasible.status_is
        (refutation-accepted laws places d file gap status text rows others are so infeasible.multipliers told.kept told.same infeasible.refuted.proved (told.read some) due)
    of_method asked Rounded (inr (inr of)) = of_end asked of

  no-rows : HasNoRows places d end file → AcceptsEnd end status text
  no-rows (inl wide) = stopped-so end status text _ wide.status_is
  no-rows (inr many) = refused-so end status text _ many.status_is

  -- where the rows were made, they are made again
  made-again : CanBeMade places d 0 (instances d) → HasNoRows places d status text → ⊥
  made-again can (inl wide) = width_or_memory (Place.Row wide.name) (made_law places d 0 (instances d) (book.Width (Place.Row wide.name)) can (wide.name, refl, wide.wide))
  made-again can (inr many) = many_or_memory (made_law places d 0 (instances d) book.TooManyEntries can (many.name, many.many))

  accepts-rows : (method : SolveMethod) (rows : List Row) → AreRowsOf places d (instances d) rows → CanBeMade places d 0 (instances d) → DueForRows places d rows (to_prove method) rounded end file
      → DueForProof places file gap d status text → AcceptsEnd end status text
  accepts-rows method rows are can of_rows (inl again) = elim (rows-due places d rows (to_prove method) rounded end file of_rows) [
    | inl large ↦ size-so method pivots _ _ end status file text large.told
    | inr of ↦ of_method rows again.rows are again.are_rows again.due method method of
  ]
  accepts-rows method rows are can of_rows (inr none) = absurd (made-again can none)

  accepts-made : (method : SolveMethod) → DueForSolve places (to_prove method) rounded d end file → DueForProof places file gap d status text → AcceptsEnd end status text
  accepts-made method (inl made) due = accepts-rows method made.rows made.are_rows made.made made.due due
  accepts-made method (inr none) due = no-rows none

module _ (laws : ProofLaws) (made_law : (places : ℕ) (d : Data) (before : ℕ) (names : List RowName) (fail : BookFail) → CanBeMade places d before names → HasStopped places d before names fail → fail ≡ book.Memory)
    (places gap pivots : ℕ) (d : Data) (some : all_variables d ≡ [] → ⊥) (rounded : ℕ) (end : Status) (file : List ℕ) (status : Status) (text : List ℕ) where
  -- where guesses begin from nothing
  pub accepts-end : (method : SolveMethod) → DueForSolve places (wanted_by gap pivots words.Proof method) rounded d end file → DueForProof places file gap d status text → AcceptsEnd end status text
  accepts-end = accepts-made laws made_law places gap pivots FromNothing d some rounded end file status text

  -- and where they begin from what a file holds
  accepts-told : (said : Told) (method : SolveMethod) (rows : List Row) → AreRowsOf places d (instances d) rows → CanBeMade places d 0 (instances d)
      → DueFrom said places d rows (wanted_by gap pivots words.Proof method) rounded end file → DueForProof places file gap d status text → AcceptsEnd end status text
  accepts-told (Breaks number) method rows are can due proved = refused-so end status text (StartFile number) due.0
  accepts-told Lacks method rows are can due proved = accepts-rows laws made_law places gap pivots WithoutStart d some rounded end file status text method rows are can due proved
  accepts-told (Gives founds) method rows are can due proved =
      accepts-rows laws made_law places gap pivots (FromValues (count_by is_value founds) (count_by is_passed founds)) d some rounded end file status text method rows are can due proved

  pub accepts-from : (method : SolveMethod) (bytes : List ℕ) → DueForSolveFrom places (wanted_by gap pivots words.Proof method) bytes rounded d end file → DueForProof places file gap d status text → AcceptsEnd end status text
  accepts-from method bytes (inl made) due = accepts-told made.due.0 method made.rows made.are_rows made.made made.due.2 due
  accepts-from method bytes (inr none) due =
      no-rows laws made_law places gap pivots FromNothing d some rounded end file status text none
