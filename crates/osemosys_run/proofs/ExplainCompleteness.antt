-- A model of which nothing stops the trials is explained: some plan meets the named equations, or a conflict is told.
use Rattle.osemosys_run.proofs.Common.{Source, ℕ, inl, inr, List, Row, all_variables, DueForText, Status, SolveMethod, Exact, Rounded, CanBeExplained, IsExplained}
use Rattle.explain_command.specs.declared.explain.Wanted.{Wanted}
use Rattle.explain_command.specs.Explain.{DueForExplain, DueForMethod, Finds, NothingStops}
use Rattle.osemosys_run.proofs.Completeness.{Laws, found_or_due, no_rows, over_accepted}

-- what the words ask for
abbrev wanted_for : ℕ → SolveMethod → Wanted
wanted_for pivots method = record { pivots = pivots; method = method }

module _ (laws : Laws) (pivots places : ℕ) (method : SolveMethod) (source : Source) (status : Status) (text : List ℕ) (can : CanBeExplained pivots places method source) where
  method_ends : (rows : List Row) → NothingStops method rows (all_variables can.d) pivots → DueForMethod places can.d rows (wanted_for pivots method) status text → IsExplained status
  method_ends rows nothing (inl feasible) = inl feasible.status_is
  method_ends rows nothing (inr (inl conflict)) = inr conflict.status_is
  method_ends rows nothing (inr (inr stopped)) = absurd (nothing stopped.stop stopped.cause)

  find_ends : (way : SolveMethod) (rows : List Row) → Finds way places can.d rows (wanted_for pivots method) status text → IsExplained status
  find_ends Exact rows found = absurd found
  find_ends Rounded rows (inl feasible) = inl feasible.status_is
  find_ends Rounded rows (inr conflict) = inr conflict.status_is

  data_explained : DueForExplain places (wanted_for pivots method) can.d status text → IsExplained status
  data_explained (inl made) =
      let wanted = wanted_for pivots method in
      let rows = made.rows in
      elim (found_or_due laws places can.d can.made can.within method pivots (Finds method places can.d rows wanted) (DueForMethod places can.d rows wanted) rows made.are_rows status text made.due) [
        | inl found ↦ find_ends method rows found
        | inr due ↦ method_ends rows (can.never rows made.are_rows) due
      ]
  data_explained (inr none) = inl (no_rows laws places can.d can.made status text none)

  pub explained : DueForText (λ rounded. DueForExplain places (wanted_for pivots method)) source status text → IsExplained status
  explained due = data_explained (over_accepted laws (λ rounded. DueForExplain places (wanted_for pivots method)) source can.d status text can.accepted due)
