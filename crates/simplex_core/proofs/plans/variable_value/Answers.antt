use Rattle.simplex_core.proofs.Common.{sym, value_at_column}
use Rattle.simplex_core.proofs.ValueLaws.{formed-none}
use Rattle.simplex_core.proofs.plans.variable_value.Goals as goal

pub returns-else-is_split-clause-refused : goal.returns-else-is_split-clause-refused
returns-else-is_split-clause-refused c = sym (formed-none (value_at_column c.args.values.now) c.args.column c.args.variable (sym c.if-is_split.ensures))
