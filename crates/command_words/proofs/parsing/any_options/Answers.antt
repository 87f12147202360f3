-- Option by option.
use Rattle.command_words.proofs.Common.{◌∙◌, ◌+◌, [], false, map, sym, ap, drop, fold, at_drop_more, app_of, with_rule, rule_named, entry_of}
use Rattle.command_words.proofs.parsing.any_options.Goals as goal

pub loop-option-preserved : goal.loop-option-preserved
loop-option-preserved c =
    let i = c.loop-option.option-index in
    ap (λ a. fold (λ a o. with_rule a (rule_named o)) a (map entry_of (drop (i + 1) c.args.options.now))) c.in_ok-command-2.ensures
    ∙ sym (at_drop_more (λ left. fold (λ a o. with_rule a (rule_named o)) (app_of c.loop-option.command) (map entry_of left)) c.args.options.now i (record { ref_ptr = (0, 0); now = [] }, false) c.loop-option-test.true)
    ∙ c.loop-option.invariant
