-- What a feed of rows keeps. Only its invariant cites these.
use Rattle.std.specs.Prelude.{◌≡◌, ℕ, ◌<◌, Bool, List, Option, IfSome, length, slice_index_or}
use Rattle.discount_factors.specs.Known.{Discounting}
use Rattle.model_sets.specs.Data.{Data}
use Rattle.row_core.specs.declared.equation_numbers.TheConstants.{EQUATION_COUNT}
use Rattle.row_core.specs.Equations.{IsEquation}
use Rattle.named_equations.specs.Instances.{instances}
use Rattle.named_equations.specs.RegionFactors.{AreRegionFactors, places_of}
use Rattle.row_book.specs.Books.{CanBeMade}
use Rattle.row_book.specs.Feeds.{all_contents}
use Rattle.row_book.specs.Held.{AreHeld}
use Rattle.row_book.specs.Tallies.{Marks, rows_before}
use Rattle.row_book.specs.declared.held_rows.HeldRows.{HeldRows}

-- the factors are those of the regions, all rows can be made, the counts and kinds are theirs, the rows that are held those of their
-- equations, which stand at the place if there is one, and the equation is of its list
pub record IsFeed (d : Data) (factors : List Discounting) (before : List ℕ) (kinds : List Bool) (held : List HeldRows) (place : Option ℕ) (eq : ℕ) : Type 0 where
  pub equation : IsEquation eq
  pub factors_are : AreRegionFactors (places_of factors) d factors
  pub made : CanBeMade (places_of factors) d 0 (instances d)
  pub counts : before ≡ rows_before d EQUATION_COUNT
  pub held_are : AreHeld (places_of factors) d held
  pub place_is : IfSome place (λ i. (i < length held) × ((z : HeldRows) → (slice_index_or held i z).eq ≡ eq))
  pub marks : Marks kinds (all_contents (places_of factors) d)
