-- The rows of a trial, which those of the next are made from: of these all but the row of the limit are the same. Only private functions cite this.
use Rattle.std.specs.Prelude.{◌≡◌, ◌<◌, ◌≤ℤ◌, ℕ, ℤ, pos, true, length}
use Rattle.command_words.specs.LimitLists.{IsLimit}
use Rattle.model_sets.specs.Data.{Data}
use Rattle.model_sets.specs.Members.{SetLists, members}
use Rattle.model_sets.specs.declared.set_numbers.TheConstants.{EMISSION, REGION}
use Rattle.row_core.specs.declared.Row.{Row}
use Rattle.row_core.specs.declared.RowName.{RowName}
use Rattle.named_equations.specs.RowMeaning.{IsNamedRow}
use Rattle.row_book.specs.Books.{Book, row_fits}
use Rattle.row_book.specs.EquationRows.{terms_at}
use Rattle.row_book.specs.Replaced.{IsReplaced}
use Rattle.command_answers.specs.MadeBooks.{IsMadeBook}
use Rattle.curve_command.specs.Limited.{limit_at, with_limit}
use Rattle.curve_command.specs.declared.trials.Limit.{Limit}
use Rattle.curve_command.specs.declared.trials.Member.{Member}

-- the positions are those of a region and an emission of the sets
pub record IsMemberOf (sets : SetLists) (member : Member) : Type 0 where
  pub region : member.region < length (members sets REGION)
  pub emission : member.emission < length (members sets EMISSION)

-- so are the limit's, and it is one that a word may give
pub record IsLimitOf (sets : SetLists) (limit : Limit) : Type 0 where
  pub member : IsMemberOf sets limit.member
  pub most : IsLimit limit.most

-- the row of the limits of a member
abbrev pub limit_of : Member → RowName
limit_of member = limit_at member.region member.emission

-- the data with a limit
abbrev pub limited : Data → Limit → Data
limited d limit = with_limit d limit.member.region limit.member.emission limit.most

-- the rows and the variables of the data with some limit of the member, which is at least 0
pub record IsBookAtSome (places : ℕ) (d : Data) (member : Member) (book : Book) : Type 0 where
  pub most : ℤ
  pub least : pos 0 ≤ℤ most
  pub made : IsMadeBook places (with_limit d member.region member.emission most) book

-- the book with the row of this name over other data in the place of the one that it had
pub record IsRenewed (places : ℕ) (d : Data) (name : RowName) (old new : Book) : Type 0 where
  pub row : Row
  pub row_is : IsNamedRow places d name (terms_at places d name) row
  pub fits : row_fits places d name ≡ true
  pub replaced : IsReplaced row old.rows new.rows
  pub variables : new.vars ≡ old.vars
