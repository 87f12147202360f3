use Rattle.data_changes.proofs.Common.{◌∙◌, sym, rules, tests, bytes_eq, YieldsList-from_slice, position-map, position_from_yields_List}
use Rattle.data_changes.proofs.columns.place_of.Goals as goal

pub returns : goal.returns
returns c =
    position_from_yields_List (λ one. bytes_eq c.args.column.now one.now) _ _ _ c.position.ensures.ran (YieldsList-from_slice c.args.header.now cc) (λ x b q k. search (rules, tests))
    ∙ sym (position-map (λ one. one.now) (bytes_eq c.args.column.now) c.args.header.now)
