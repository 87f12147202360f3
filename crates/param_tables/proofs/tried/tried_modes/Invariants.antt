use Rattle.param_tables.proofs.Common.{◌≡◌, filter, range_with_len, is_ratio_nonzero}
use Rattle.param_tables.proofs.tried.tried_modes.Given as goal

abbrev pub invariant-loop-mode : goal.invariant-loop-mode
invariant-loop-mode l = l.modes.items ≡ filter (λ m. is_ratio_nonzero l.model.facts l.ratio l.region l.technology l.commodity m l.year) (range_with_len 0 l.mode)
