-- With the rows that are left, the names so far are those of all rows.
use Rattle.std.proofs.Common.{◌≡◌, ◌++◌, drop}
use Rattle.conflict_sets.specs.Walks.{listed_names}
use Rattle.conflict_sets.proofs.listing.listed_names.Given as goal

abbrev pub invariant-loop-row : goal.invariant-loop-row
invariant-loop-row l = l.names.items ++ listed_names l.multipliers (drop l.row-index l.rows) ≡ listed_names l.multipliers l.rows
