-- Counts that aren't above the limits are within them.
use Rattle.std.proofs.Common.{inl, inr}
use Rattle.command_answers.proofs.books.refuse_large.Goals as goal
use Rattle.command_answers.proofs.books.refuse_large.Goals.{then-size-gt-MOST_ROWS-via-then-size-gt-MOST_ROWS, then-size-gt-MOST_ROWS-via-else-size-gt-MOST_ROWS+then-size-gt-MOST_COLUMNS}

pub returns-then-size-gt-MOST_ROWS : goal.returns-then-size-gt-MOST_ROWS
returns-then-size-gt-MOST_ROWS c =
    let told = c.in_ok-answer.ensures in
    let rows = rw c.rows.ensures.rows at c.size_of-size.ensures.rows in
    let columns = rw c.vars.ensures.variables at c.size_of-size.ensures.columns in
    record {
      passed = elim c.then-size-gt-MOST_ROWS.branch [
        | then-size-gt-MOST_ROWS-via-then-size-gt-MOST_ROWS w ↦ inl (rw rows at w.if-size-gt-MOST_ROWS.true)
        | then-size-gt-MOST_ROWS-via-else-size-gt-MOST_ROWS+then-size-gt-MOST_COLUMNS w ↦ inr (rw columns at w.if-size-gt-MOST_COLUMNS.true)
      ];
      told = rw (rows, columns) at told;
    }

pub returns : goal.returns
returns c =
    let rows = rw c.rows.ensures.rows at c.size_of-size.ensures.rows in
    let columns = rw c.vars.ensures.variables at c.size_of-size.ensures.columns in
    (rw rows at c.if-size-gt-MOST_ROWS.false, rw columns at c.if-size-gt-MOST_COLUMNS.false)
