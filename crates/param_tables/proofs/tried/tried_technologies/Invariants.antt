use Rattle.param_tables.proofs.Common.{◌≡◌, filter, range_with_len, has_nonzero_mode}
use Rattle.param_tables.proofs.tried.tried_technologies.Given as goal

abbrev pub invariant-loop-technology : goal.invariant-loop-technology
invariant-loop-technology l = l.technologies.items ≡ filter (λ t. has_nonzero_mode l.model.facts l.ratio l.region t l.commodity l.year) (range_with_len 0 l.technology)
