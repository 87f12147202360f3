use Rattle.command_words.proofs.Common.{◌≡◌, drop, map, given_of, described, form_in}
use Rattle.command_words.proofs.forms.form_in.Given as goal

abbrev pub invariant-loop-form : goal.invariant-loop-form
invariant-loop-form l = form_in (map described l.table) l.word (given_of l.given) ≡ form_in (map described (drop l.form-index l.table)) l.word (given_of l.given)
