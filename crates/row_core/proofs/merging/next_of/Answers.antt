-- The next variable, case by case.
use Rattle.std.proofs.Common.{sym, ◌∙◌}
use Rattle.row_core.proofs.WritingSteps.{no_entry}
use Rattle.row_core.proofs.NextLaws.{next-right_alone, next-left_alone, next-Less, next-Greater, next-Equal}
use Rattle.row_core.proofs.merging.next_of.Goals as goal

pub returns-then-left-entries-clause-found : goal.returns-then-left-entries-clause-found
returns-then-left-entries-clause-found c =
    next-right_alone c.args.entries.now c.args.others.now c.args.left c.args.right no_entry c.if-left-entries.true c.if-right-others.false c.requires.others

pub returns-then-right-others-2-clause-found : goal.returns-then-right-others-2-clause-found
returns-then-right-others-2-clause-found c =
    next-left_alone c.args.entries.now c.args.others.now c.args.left c.args.right no_entry c.if-left-entries.false c.if-right-others-2.true c.requires.entries

pub returns-in-Less-clause-found : goal.returns-in-Less-clause-found
returns-in-Less-clause-found c =
    next-Less c.args.entries.now c.args.others.now c.args.left c.args.right no_entry no_entry c.if-left-entries.false c.if-right-others-2.false c.requires.entries (sym c.cmp.ensures ∙ c.in-Less.is)

pub returns-in-Greater-clause-found : goal.returns-in-Greater-clause-found
returns-in-Greater-clause-found c =
    next-Greater c.args.entries.now c.args.others.now c.args.left c.args.right no_entry no_entry c.if-left-entries.false c.if-right-others-2.false c.requires.others (sym c.cmp.ensures ∙ c.in-Greater.is)

pub returns-in-Equal-clause-found : goal.returns-in-Equal-clause-found
returns-in-Equal-clause-found c =
    next-Equal c.args.entries.now c.args.others.now c.args.left c.args.right no_entry no_entry c.if-left-entries.false c.if-right-others-2.false c.requires.entries c.requires.others (sym c.cmp.ensures ∙ c.in-Equal.is)
