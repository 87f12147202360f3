-- The row is the one of the limit over the data, and stands in the place of its twin.
use Rattle.std.proofs.Common.{refl}
use Rattle.curve_command.proofs.books.renewed.Goals as goal

pub returns-then-replace : goal.returns-then-replace
returns-then-replace c =
    record {
      row = c.in-Ok-Some.row;
      row_is = rw (c.in-Ok-Some.field-0-is, c.limit_row-limit.ensures) at c.in-Ok-Some.ensures.row;
      fits = rw (c.in-Ok-Some.field-0-is, c.limit_row-limit.ensures) at c.in-Ok-Some.ensures.fits;
      replaced = c.if-replace.ensures.replaced refl;
      variables = c.if-replace.ensures.variables;
    }
