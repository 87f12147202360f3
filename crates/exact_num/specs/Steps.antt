-- A longer computation as a list of steps, each at a place and with the numbers that are formed there.
use Rattle.std.specs.Prelude.{ℤ, List, [], ◌∷◌, Option, Some, None, if◌then◌else◌}
use Rattle.exact_num.specs.Range.{all_fit}

-- one step: its place, and the numbers formed in it
pub record Step (P : Type 0) : Type 0 where
  pub place : P
  pub formed : List ℤ

-- the place of the first step that forms a number that doesn't fit
unfoldable pub first_wide : {P : Type 0} → List (Step P) → Option P
first_wide [] = None
first_wide (s ∷ ss) = if all_fit s.formed then first_wide ss else Some s.place
