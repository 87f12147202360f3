use Rattle.command_words.proofs.Common.{◌≡◌, drop, list_all, given_of, described, suits}
use Rattle.command_words.proofs.forms.all_suit.Given as goal

abbrev pub invariant-loop-option : goal.invariant-loop-option
invariant-loop-option l =
    list_all (λ o. suits (described l.form) (given_of l.given) o.0.now) l.options
    ≡ list_all (λ o. suits (described l.form) (given_of l.given) o.0.now) (drop l.option-index l.options)
