use Rattle.std.proofs.Common.{◌≡◌, ◌++◌, ◌-◌}
use Rattle.std.specs.List.{flat_map, range_with_len}
use Rattle.model_maker.specs.MadeText.{record_lines, year_lines}
use Rattle.model_maker.specs.Tables.{records_told}
use Rattle.model_maker.proofs.lines.push_records.Given as goal

-- with the records of the years that are left, those so far are those of all years
abbrev pub invariant-loop-k : goal.invariant-loop-k
invariant-loop-k l =
    l.out.items ++ flat_map (year_lines (records_told l.records)) (range_with_len l.k (l.years - l.k)) ≡ l.fn.out.items ++ record_lines l.years (records_told l.records)
