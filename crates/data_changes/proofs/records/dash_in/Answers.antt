use Rattle.data_changes.proofs.Common.{rules, tests, YieldsList-from_slice, position_from_yields_List}
use Rattle.std.specs.Prelude.{◌==◌}
use Rattle.data_changes.proofs.records.dash_in.Goals as goal

pub returns : goal.returns
returns c = position_from_yields_List (λ b. b == 45) _ _ _ c.position.ensures.ran (YieldsList-from_slice c.args.text.now cc) (λ x b q k. search (rules, tests))
