-- Whether the rows of the named equations can be made over accepted data, with written factors of so many decimal places, and what is due where one can't. It
-- is the same for every command.
use Rattle.std.specs.Prelude.{◌≡◌, ℕ, List}
use Rattle.model_sets.specs.Data.{Data}
use Rattle.named_equations.specs.Instances.{instances}
use Rattle.row_book.specs.Books.{AreRowsOf, CanBeMade, HasTooMany, IsTooWide}
use Rattle.row_core.specs.declared.Row.{Row}
use Rattle.row_core.specs.declared.RowName.{RowName}
use Rattle.row_core.specs.declared.place.Place.{Place}
use Rattle.command_answers.specs.declared.status.Status.{Status}
use Rattle.command_answers.specs.declared.status.Status.TheVariants.{Uncertified, Refused}
use Rattle.command_answers.specs.declared.status.Refusal.TheVariants.{TooManyEntries}
use Rattle.simplex_core.specs.declared.stops.Stop.TheVariants.{Width}
use Rattle.command_answers.specs.Lines.{entries_line, uncertified_line}

-- the first row that can't be made is one in which a number doesn't fit, and the line names it
pub record IsUncertified (places : ℕ) (d : Data) (status : Status) (text : List ℕ) : Type 0 where
  pub name : RowName
  pub wide : IsTooWide places d 0 (instances d) name
  pub status_is : status ≡ Uncertified (Width (Place.Row name))
  pub line_is : text ≡ uncertified_line d.sets (Width (Place.Row name))

-- the first row that can't be made is one with which the entries are too many
pub record IsTooLarge (places : ℕ) (d : Data) (status : Status) (text : List ℕ) : Type 0 where
  pub name : RowName
  pub many : HasTooMany places d 0 (instances d) name
  pub status_is : status ≡ Refused TooManyEntries
  pub line_is : text ≡ entries_line

-- the rows can be made, and with them something is due
pub record IsMadeFor (places : ℕ) (d : Data) (OverRows : List Row → Type 0) : Type 0 where
  pub made : CanBeMade places d 0 (instances d)
  pub rows : List Row
  pub are_rows : AreRowsOf places d (instances d) rows
  pub due : OverRows rows
