-- The numbers of named equations are below that of the row that limits the cost.
use Rattle.std.proofs.Common.{◌<◌, arith}
use Rattle.row_core.specs.declared.Row.{Row}
use Rattle.row_book.specs.Books.{HasNameWithin}
use Rattle.row_book.proofs.Lists.{AllByRecursion-weaker}
use Rattle.row_core.specs.declared.cost_limit.TheConstants.{SPAN}
use Rattle.solver_cases.proofs.books.book_of.Goals as goal

pub returns-in-Ok-new : goal.returns-in-Ok-new
returns-in-Ok-new c = AllByRecursion-weaker (HasNameWithin c.in-Ok-build.model.facts.sets) (λ (row : Row). row.name.eq < SPAN) (λ row of. let few = of.0.1 in omega (arith, few)) c.in-Ok-new.book.rows c.in-Ok-new.ensures.named
