use Rattle.row_book.proofs.SameRows.{same-terms, same-rows, same-made, same-wide, same-many}
use Rattle.row_book.proofs.laws.same_data_laws.Goals as goal

pub returns-clause-terms : goal.returns-clause-terms
returns-clause-terms c = same-terms

pub returns-clause-rows : goal.returns-clause-rows
returns-clause-rows c = same-rows

pub returns-clause-made : goal.returns-clause-made
returns-clause-made c = same-made

pub returns-clause-wide : goal.returns-clause-wide
returns-clause-wide c = same-wide

pub returns-clause-many : goal.returns-clause-many
returns-clause-many c = same-many
