-- The steps of prices, row by row.
use Rattle.result_tables.proofs.Common.{◌≡◌, ◌≢◌, ℕ, ◌+◌, ◌<◌, Bool, true, false, List, [], ◌∷◌, ◌++◌, length, map, drop, get_or, Option, Some, None, sym, ap, ◌∙◌, arith, if◌then◌else◌, ◌==◌, drop_more, map-append, filter-append, all_fit, Rational, Step, first_wide, first_wide-append, first_wide-fits, first_wide-nil, first_wide-stops, EBA11, Row, RowName, IsFirstStop, balances, is_balance, price_step, price_steps}
use Rattle.std.specs.Option.{option_or}
use Rattle.std.proofs.lemmas.Bool.Decides.{nat_tests}
use Rattle.row_core.specs.declared.place.Place.{Place}
use Rattle.row_core.specs.declared.place.Place.TheVariants.{Price}
use Rattle.row_core.specs.declared.place.Stopped.{Stopped}
use Rattle.row_core.specs.declared.place.Stopped.TheVariants.{Width, Memory}

module _ (m : List (RowName × Rational)) where
  -- the place of the first price that doesn't fit
  abbrev pub wide : List Row → Option Place
  wide rows = first_wide (price_steps rows m)

  -- ---- one row

  abbrev steps_by : Bool → Row → List (Step Place)
  steps_by b row = map (price_step m) (if b then row ∷ [] else [])

  pub no_step : (row : Row) → row.name.eq ≢ EBA11 → wide (row ∷ []) ≡ None
  no_step row h =
      let other : (row.name.eq == EBA11) ≡ false = grind (arith, nat_tests) in
      ap (λ b. first_wide (steps_by b row)) other ∙ first_wide-nil

  pub step_fits : (row : Row) → row.name.eq ≡ EBA11 → all_fit (price_step m row).formed ≡ true → wide (row ∷ []) ≡ None
  step_fits row e h = ap (λ n. first_wide (steps_by (n == EBA11) row)) e ∙ first_wide-fits (price_step m row) [] h ∙ first_wide-nil

  pub step_stops : (row : Row) → row.name.eq ≡ EBA11 → all_fit (price_step m row).formed ≡ false → wide (row ∷ []) ≡ Some (Price row.name)
  step_stops row e h = ap (λ n. first_wide (steps_by (n == EBA11) row)) e ∙ first_wide-stops (price_step m row) [] h

  -- ---- row by row

  joined : (xs ys : List Row) → wide (xs ++ ys) ≡ option_or (wide xs) (wide ys)
  joined xs ys =
      ap (λ rows. first_wide (map (price_step m) rows)) (filter-append is_balance xs ys)
      ∙ ap first_wide (map-append (price_step m) (balances xs) (balances ys))
      ∙ first_wide-append (price_steps xs m) (price_steps ys m)

  -- from a row on: its own step, else those of the rows after it
  wide_from : (rows : List Row) (i : ℕ) (d : Row) → i < length rows → wide (drop i rows) ≡ option_or (wide (get_or rows i d ∷ [])) (wide (drop (i + 1) rows))
  wide_from rows i d h = ap wide (drop_more rows i d h) ∙ joined (get_or rows i d ∷ []) (drop (i + 1) rows)

  pub wide_next : (rows : List Row) (i : ℕ) (d : Row) → i < length rows → wide (get_or rows i d ∷ []) ≡ None → wide (drop (i + 1) rows) ≡ wide (drop i rows)
  wide_next rows i d h none = sym (wide_from rows i d h ∙ ap (λ o. option_or o (wide (drop (i + 1) rows))) none)

  -- the first stop of the rows that are left is that of all, where the rows so far fit
  pub stops_from : (rows : List Row) (i : ℕ) (d : Row) (stop : Stopped) → i < length rows → wide (drop i rows) ≡ wide rows → IsFirstStop (price_steps (get_or rows i d ∷ []) m) stop → IsFirstStop (price_steps rows m) stop
  stops_from rows i d (Width place) h so_far here = sym so_far ∙ wide_from rows i d h ∙ ap (λ o. option_or o (wide (drop (i + 1) rows))) here
  stops_from rows i d Memory h so_far here = tt
