-- The line ends at its line feed, or with the text.
use Rattle.solver_answers.proofs.Common.{◌+◌, ◌∙◌, length, sym, eqb-false, take_rest}
use Rattle.solver_answers.proofs.WordLaws.{first_line, last_line}
use Rattle.solver_answers.proofs.words.split_line.Goals as goal

pub returns-then-end-text : goal.returns-then-end-text
returns-then-end-text c =
    rw (take_rest c.args.text.now (c.line_length-end.result + 1)) (first_line c.args.text.now c.line_length-end.result c.line_length-end.ensures.first c.if-end-text.true)

pub returns-else-end-text : goal.returns-else-end-text
returns-else-end-text c = last_line c.args.text.now c.line_length-end.result c.line_length-end.ensures.first c.if-end-text.false (eqb-false (length c.args.text.now) 0 (sym c.is_empty.ensures ∙ c.if-is_empty.false))
