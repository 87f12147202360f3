use Rattle.command_words.proofs.Common.{◌≡◌, drop, map, fold, app_of, with_rule, files_only, rule_named, entry_of}
use Rattle.command_words.proofs.parsing.any_options.Given as goal

abbrev pub invariant-loop-option : goal.invariant-loop-option
invariant-loop-option l =
    fold (λ a o. with_rule a (rule_named o)) (app_of l.command) (map entry_of (drop l.option-index l.options)) ≡ fold (λ a o. with_rule a (rule_named o)) files_only (map entry_of l.options)
