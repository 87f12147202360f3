use Rattle.row_book.proofs.Common.{◌≤◌, arith, rules, IfErr-weaker, places_of}
use Rattle.row_book.proofs.InstanceRows.{capacity-stops}
use Rattle.row_book.proofs.instance_row.row_of.Goals as goal

pub returns-in-2-to-6-clause-stopped : goal.returns-in-2-to-6-clause-stopped
returns-in-2-to-6-clause-stopped c =
    let from : 2 ≤ c.args.name.eq = omega arith in
    let to : c.args.name.eq ≤ 6 = omega arith in
    IfErr-weaker c.rows_of.result _ _ (λ stopped stops. capacity-stops (places_of c.args.factors.now) c.args.model.now.facts c.args.name stopped from to stops) c.rows_of.ensures.stopped

pub returns-in-2-to-6-clause-row : goal.returns-in-2-to-6-clause-row
returns-in-2-to-6-clause-row c = let row = c.rows_of.ensures.row (places_of c.args.factors.now) in search rules

pub returns-in-43-to-60-clause-row : goal.returns-in-43-to-60-clause-row
returns-in-43-to-60-clause-row c = let row = c.rows_of-in-43-to-60.ensures.row (places_of c.args.factors.now) in search rules

pub returns-in_default-clause-row : goal.returns-in_default-clause-row
returns-in_default-clause-row c = let row = c.rows_of-in_default.ensures.row (places_of c.args.factors.now) in search rules
