use Rattle.param_tables.proofs.Common.{◌≡◌, ℕ, ◌<◌, false, is_ratio_nonzero}
use Rattle.param_tables.proofs.tried.has_nonzero_mode.Given as goal

abbrev pub invariant-loop-mode : goal.invariant-loop-mode
invariant-loop-mode l = (m : ℕ) → m < l.mode → is_ratio_nonzero l.model.facts l.ratio l.region l.technology l.commodity m l.year ≡ false
