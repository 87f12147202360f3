-- A feed of all rows of a model: what they say, and the place among them.
use Rattle.std.specs.Prelude.{◌≡◌, ℕ, ◌+◌, Bool, List, Option, None, Some, drop, map, reverse, if◌then◌else◌}
use Rattle.std.specs.List.{enumerate_from}
use Rattle.model_sets.specs.Data.{Data}
use Rattle.model_sets.specs.Members.{SetLists}
use Rattle.row_core.specs.declared.Row.{Row}
use Rattle.row_core.specs.declared.RowName.{RowName}
use Rattle.row_core.specs.declared.Var.{Var}
use Rattle.row_core.specs.EquationTerms.{EquationTerms, right_of, terms_of}
use Rattle.row_core.specs.Equations.{IsEquation}
use Rattle.row_core.specs.NameTexts.{RowNameIsWithin}
use Rattle.row_core.specs.Written.{written_entries, written_right}
use Rattle.named_equations.specs.Instances.{instances, instances_of}
use Rattle.row_core.specs.Contents.{RowContents, contents_of}
use Rattle.row_core.specs.RowLists.{AreVariablesOf}
use Rattle.row_book.specs.Books.{AreRowsOf}
use Rattle.row_book.specs.EquationRows.{terms_at}

-- what the rows say, and the rows of an equation that are ahead, each with its position among all rows
pub record Feed : Type 0 where
  pub rows : List RowContents
  pub ahead : List (ℕ × RowContents)

-- these are what the rows of all instances say, in order, and the variables of these rows
pub record AreContentsOf (places : ℕ) (d : Data) (contents : List RowContents) (vars : List Var) : Type 0 where
  pub rows : List Row
  pub are_rows : AreRowsOf places d (instances d) rows
  pub say : map contents_of rows ≡ contents
  pub are_variables : AreVariablesOf rows vars

-- the row's equation is in its list, and each of its subscripts is the position of a member
abbrev pub HasContentsWithin : SetLists → RowContents → Type 0
HasContentsWithin sets row = IsEquation row.name.eq × RowNameIsWithin sets row.name

-- ---- what rows say, from the terms of their equations

-- what the row says that is written for these terms
abbrev pub contents_written : RowName → EquationTerms → RowContents
contents_written name e = record {
  name = name;
  sense = e.sense;
  entries = written_entries (terms_of e) (right_of e);
  rhs = written_right (terms_of e) (right_of e);
}

-- what the row of the instance says
unfoldable pub contents_at : ℕ → Data → RowName → RowContents
contents_at places d name = contents_written name (terms_at places d name)

-- what the rows of an equation say
unfoldable pub equation_contents : ℕ → Data → ℕ → List RowContents
equation_contents places d eq = map (contents_at places d) (instances_of d eq)

-- what all rows say
unfoldable pub all_contents : ℕ → Data → List RowContents
all_contents places d = map (contents_at places d) (instances d)

-- the rows that are ahead after so many: those that are made, the next one last, or what all rows of the equation say
abbrev pub ahead_after : ℕ → Bool → List Row → List RowContents → List (ℕ × RowContents)
ahead_after passed made rows contents = enumerate_from (passed + 1) (if made then map contents_of (reverse rows) else contents)

-- the same where the rows may be held: then those after the ones that were taken
abbrev pub ahead_at : Option ℕ → ℕ → ℕ → Bool → List Row → List RowContents → List (ℕ × RowContents)
ahead_at (Some place) taken passed made rows contents = enumerate_from (passed + 1) (drop taken contents)
ahead_at None taken passed made rows contents = ahead_after passed made rows contents
