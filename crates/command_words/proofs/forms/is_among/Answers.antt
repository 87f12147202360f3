use Rattle.command_words.proofs.Common.{◌∙◌, rules, tests, bytes_eq, YieldsList-from_slice, any_from_yields_List, list_any-map}
use Rattle.command_words.proofs.forms.is_among.Goals as goal

pub returns : goal.returns
returns c =
    any_from_yields_List (λ one. bytes_eq one.now c.args.name.now) _ _ _ c.any.ensures.ran (YieldsList-from_slice c.args.names.now cc) (λ x b q k. search (rules, tests))
    ∙ list_any-map (λ one. bytes_eq one c.args.name.now) (λ o. o.now) c.args.names.now
