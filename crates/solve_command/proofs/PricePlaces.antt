-- The place of a price is that of a row of the sets, so its name can be written.
use Rattle.solve_command.proofs.Common.{◌≡◌, true, List, Rational, SetLists, Row, RowName, Var, Place, Certified, balances, is_balance, price_step, price_steps, IsListedBook, Shown}
use Rattle.row_book.proofs.Lists.{AllByRecursion-filter, AllByRecursion-map, AllByRecursion-weaker}
use Rattle.certified_answers.specs.declared.answers.Certified.TheVariants as found
use Rattle.command_answers.specs.PlacesWithin.{IsRowOfSets, PlaceIsWithin}
use Rattle.command_answers.proofs.ListedBooks.{rows-named}
use Rattle.command_answers.proofs.KeptPlaces.{AreStepsKept, wide-kept}
use Rattle.solve_command.specs.SolveOutcomes.{HasPriceWideAt}

module _ (sets : SetLists) (rows : List Row) (vars : List Var) (listed : IsListedBook sets rows vars) where
  prices-within : (multipliers : List (RowName × Rational)) → AreStepsKept sets (IsRowOfSets sets) (price_steps rows multipliers)
  prices-within multipliers =
      AllByRecursion-map (λ s. PlaceIsWithin sets s.place) (price_step multipliers) (balances rows)
      (AllByRecursion-weaker (λ (row : Row). IsRowOfSets sets row.name × (is_balance row ≡ true)) (λ row. IsRowOfSets sets row.name) (λ row of. of.0) (balances rows)
      (AllByRecursion-filter (λ (row : Row). IsRowOfSets sets row.name) is_balance rows (rows-named sets rows vars listed)))

  -- the place at which a solution isn't shown
  pub shown-within : (show : Shown) (solution : Certified) (place : Place) → HasPriceWideAt show rows solution place → PlaceIsWithin sets place
  shown-within show (found.Optimal plan multipliers cost bound made) place wide = wide-kept sets (IsRowOfSets sets) (price_steps rows multipliers) place (prices-within multipliers) wide.1
  shown-within show solution place wide = absurd wide
