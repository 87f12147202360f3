use Rattle.row_book.proofs.Common.{◌≤◌, arith, refl, members}
use Rattle.model_sets.specs.Names as sets
use Rattle.row_book.proofs.Periods.{year-short}
use Rattle.row_book.proofs.factors.years_in_all.Goals as goal

pub overflow_add-result : goal.overflow_add-result
overflow_add-result c =
    let rules = c.count.ensures.rules.rules sets.year (omega arith, omega arith) in
    let last : c.last_year.result ≤ 9999 = year-short (members c.sets-sets.result.now sets.year) c.last_year.result (rules.years refl) c.last_year.ensures.greatest.0 in
    record { fits = omega (arith, last) }
