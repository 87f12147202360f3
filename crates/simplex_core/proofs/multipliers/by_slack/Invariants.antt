-- The multipliers so far, and those of the rows that are left.
use Rattle.simplex_core.proofs.Common.{◌≡◌, ◌+◌, ◌++◌, map, drop, value_of, inequality_of, line_of, multipliers_from}
use Rattle.simplex_core.proofs.multipliers.by_slack.Given as goal

abbrev pub invariant-loop-position : goal.invariant-loop-position
invariant-loop-position l =
    multipliers_from l.slack (line_of l.tableau.tableau l.line) l.d (map inequality_of l.rows)
    ≡ map value_of l.lambda.items ++ multipliers_from (l.slack + l.position) (line_of l.tableau.tableau l.line) l.d (map inequality_of (drop l.position l.rows))
