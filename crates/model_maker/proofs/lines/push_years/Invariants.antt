use Rattle.std.proofs.Common.{◌≡◌, ◌++◌, ◌-◌}
use Rattle.std.specs.List.{flat_map, range_with_len}
use Rattle.model_maker.specs.MadeText.{year_member, years_from_first}
use Rattle.model_maker.proofs.lines.push_years.Given as goal

-- with the years that are left, those so far are all
abbrev pub invariant-loop-k : goal.invariant-loop-k
invariant-loop-k l =
    l.out.items ++ flat_map year_member (range_with_len l.k (l.years - l.k)) ≡ l.fn.out.items ++ flat_map year_member (years_from_first l.years)
