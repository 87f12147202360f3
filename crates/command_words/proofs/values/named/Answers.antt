use Rattle.command_words.proofs.Common.{◌∙◌, rules, tests, ap, sym, option_map, bytes_eq, YieldsList-from_slice, find_from_yields_List, find-map, entry_of}
use Rattle.command_words.proofs.values.named.Goals as goal

pub returns-in-Some : goal.returns-in-Some
returns-in-Some g c =
    let word = c.args.word.now in
    let found = find_from_yields_List (λ e. bytes_eq e.0.now word) _ _ c.find.result c.find.ensures.ran (YieldsList-from_slice c.args.table.now cc) (λ x b q k. search (rules, tests)) in
    sym (ap (option_map (λ e. e.1)) (sym (find-map (λ e. bytes_eq e.0 word) entry_of c.args.table.now)) ∙ ap (λ o. option_map (λ e. e.1) (option_map entry_of o)) (sym found ∙ ap (option_map (λ x. x.now)) c.in-Some.is))

pub returns-in-None : goal.returns-in-None
returns-in-None g c =
    let word = c.args.word.now in
    let found = find_from_yields_List (λ e. bytes_eq e.0.now word) _ _ c.find.result c.find.ensures.ran (YieldsList-from_slice c.args.table.now cc) (λ x b q k. search (rules, tests)) in
    sym (ap (option_map (λ e. e.1)) (sym (find-map (λ e. bytes_eq e.0 word) entry_of c.args.table.now)) ∙ ap (λ o. option_map (λ e. e.1) (option_map entry_of o)) (sym found ∙ ap (option_map (λ x. x.now)) c.in-None.is))
