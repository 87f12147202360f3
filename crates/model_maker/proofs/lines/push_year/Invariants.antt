use Rattle.std.proofs.Common.{◌≡◌, ◌++◌, drop}
use Rattle.model_maker.specs.MadeText.{year_lines}
use Rattle.model_maker.specs.Tables.{records_told}
use Rattle.model_maker.proofs.lines.push_year.Given as goal

-- with the lines of the records that are left, the lines so far are those of all
abbrev pub invariant-loop-entry : goal.invariant-loop-entry
invariant-loop-entry l =
    l.out.items ++ year_lines (records_told (drop l.entry-index l.records)) l.k ≡ l.fn.out.items ++ year_lines (records_told l.records) l.k
