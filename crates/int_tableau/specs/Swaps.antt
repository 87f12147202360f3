-- Two rows in each other's place.
use Rattle.std.specs.Prelude.{ℕ}
use Rattle.std.specs.List.{swap}
use Rattle.written_method.specs.Tableaus.{Tableau, negated}
use Rattle.int_tableau.specs.Counted.{Counted}

-- the tableau with the line of a row multiplied by -1, and that row and `home` in each other's place
abbrev pub swapped : ℕ → ℕ → Tableau → Tableau
swapped home row t = record { lines = swap (negated row t).lines row home; basics = swap t.basics row home; columns = t.columns }

abbrev pub swapped_in : ℕ → ℕ → Counted → Counted
swapped_in home row t = record { tableau = swapped home row t.tableau; pivots = t.pivots }
