-- What the rounded method finds of a book of rows is due over the named equations.
use Rattle.solve_command.proofs.Common.{ℕ, inl, inr, List, value_of, Data, SetLists, Row, Var, Certified, IsBookOf, Status, refutation_file, Wanted, IsFoundBy, HasFractions, ReadsBack, TellsRefutation, IsFound, IsFoundInfeasibleShown, are, near, refuted}
use Rattle.std.specs.Prelude.{◌≡◌, ◌⊎◌}
use Rattle.certified_answers.specs.declared.answers.Certified.TheVariants as exact
use Rattle.solve_command.specs.Rounding.{TellsFound}
use Rattle.result_tables.specs.declared.attempts.FoundBy.TheVariants.{ByGuesses}
use Rattle.solve_command.proofs.ReadingBack.{where-proof, where-shown}

module _ (places : ℕ) (d : Data) (rows : List Row) (vars : List Var) (book : IsBookOf places d rows vars) (sets : SetLists) (same : sets ≡ d.sets) (wanted : Wanted) (rounded : ℕ) (status : Status) (text : List ℕ) where
  pub due-from_found : ReadsBack d rows vars → (solution : Certified) → HasFractions solution → IsFoundBy rows vars wanted.gap wanted.pivots solution → TellsFound sets rows vars wanted rounded places solution status text
      → IsFound places d rows wanted rounded status text ⊎ IsFoundInfeasibleShown places d rows wanted rounded status text
  due-from_found reads (exact.Optimal plan multipliers cost bound made) fractions found told =
      inl (record {
        plan = plan;
        multipliers = multipliers;
        cost = value_of cost;
        bound = value_of bound;
        made = made;
        within = found.within;
        optimum = near places d rows vars book plan multipliers (value_of cost) (value_of bound) wanted.gap found.proved.0 found.proved.1 found.proved.2 found.complete found.named;
        cost_is = rw (are places d rows vars book) at found.proved.0.cost_is;
        prices_fit = told.fits;
        status_is = told.status_is;
        text_is = rw (same, are places d rows vars book) at told.text_is;
        told = where-shown wanted.show d rows vars plan multipliers (value_of cost) (value_of bound) made rounded places (ByGuesses wanted.begun) text reads fractions.0 fractions.1 found.complete found.named
            (rw same at told.text_is);
      })
  due-from_found reads (exact.Infeasible multipliers made) fractions found told =
      inr (
        record {
          multipliers = multipliers;
          made = made;
          within = found.within;
          refuted = refuted places d rows vars book multipliers found.proved found.named;
          status_is = told.status_is;
          text_is = rw same at told.text_is;
        },
        where-proof wanted.show text (refutation_file d.sets multipliers) (TellsRefutation d multipliers) (λ proof. rw (same, proof) at told.text_is) (reads.refutation multipliers fractions found.named),
      )
  due-from_found reads (exact.Unbounded plan direction made) fractions found told = absurd found.proved
