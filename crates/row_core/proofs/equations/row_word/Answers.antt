use Rattle.row_core.proofs.Common.{◌∙◌, sym, ap, subst, Equation, IsPlain}
use Rattle.row_core.proofs.Words.{word_of_equation_apart, word_of_equation_plain}
use Rattle.row_core.proofs.equations.row_word.Goals as goal

pub returns-clause-plain : goal.returns-clause-plain
returns-clause-plain c =
    subst IsPlain (sym (ap (λ (k : Equation). k.word) c.entry.ensures)) (word_of_equation_plain c.args.eq c.requires)

pub returns-clause-apart : goal.returns-clause-apart
returns-clause-apart c other h same =
    word_of_equation_apart other c.args.eq h c.requires (same ∙ ap (λ (k : Equation). k.word) c.entry.ensures)
