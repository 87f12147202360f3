use Rattle.data_changes.proofs.Common.{◌∙◌, sym, rules, tests, bytes_eq, YieldsList-from_slice, any_from_yields_List, list_any-map}
use Rattle.data_changes.proofs.columns.is_among.Goals as goal

pub returns : goal.returns
returns c =
    any_from_yields_List (λ one. bytes_eq c.args.name.now one.now) _ _ _ c.any.ensures.ran (YieldsList-from_slice c.args.names.now cc) (λ x b q k. search (rules, tests))
    ∙ sym (list_any-map (λ one. one.now) (bytes_eq c.args.name.now) c.args.names.now)
