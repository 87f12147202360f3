-- Line by line.
use Rattle.std.proofs.Common.{◌∙◌, sym}
use Rattle.solver_answers.proofs.LineLaws.{begun, breaks, cut_off, ended, lacks, marked_end, one_more}
use Rattle.solver_answers.proofs.ToldLaws.{goes_on}
use Rattle.solver_answers.proofs.lines.read_lines.Goals as goal

pub loop-number-init : goal.loop-number-init
loop-number-init c = begun c.args.form c.args.columns c.args.rows c.args.text.now c.in_ok-start.start c.in_ok-start.ensures

pub returns-then-ends_with_mark-clause-fault : goal.returns-then-ends_with_mark-clause-fault
returns-then-ends_with_mark-clause-fault c =
    cut_off c.args.form c.args.columns c.args.rows c.args.text.now c.loop-number.left.now c.loop-number.number c.loop-number.start c.loop-number.invariant c.in_default.ensures
    (sym c.ends_with_mark.ensures ∙ c.if-ends_with_mark.true)

pub returns-in_default-clause-answer : goal.returns-in_default-clause-answer
returns-in_default-clause-answer c =
    ended c.args.form c.args.columns c.args.rows c.args.text.now c.loop-number.left.now c.loop-number.number c.loop-number.start c.loop-number.invariant c.in_default.ensures
    (sym c.ends_with_mark.ensures ∙ c.if-ends_with_mark.false)

pub returns-in-Nothing-clause-answer : goal.returns-in-Nothing-clause-answer
returns-in-Nothing-clause-answer c =
    lacks c.args.form c.args.columns c.args.rows c.args.text.now c.loop-number.left.now c.loop-number.number c.loop-number.start c.loop-number.invariant c.in-Some.line.now c.in-Some.later.now
    c.in-Some.ensures c.in-Nothing.ensures

pub returns-in-End-clause-answer : goal.returns-in-End-clause-answer
returns-in-End-clause-answer c =
    marked_end c.args.form c.args.columns c.args.rows c.args.text.now c.loop-number.left.now c.loop-number.number c.loop-number.start c.loop-number.invariant c.in-Some.line.now c.in-Some.later.now
    c.in-Some.ensures c.in-End.ensures

pub returns-in-Wrong-clause-fault : goal.returns-in-Wrong-clause-fault
returns-in-Wrong-clause-fault c =
    breaks c.args.form c.args.columns c.args.rows c.args.text.now c.loop-number.left.now c.loop-number.number c.loop-number.start c.loop-number.invariant c.in-Some.line.now c.in-Some.later.now
    c.in-Some.ensures c.in-Wrong.ensures

pub loop-number-preserved : goal.loop-number-preserved
loop-number-preserved c =
    let found = c.found_in.result in
    one_more c.args.form c.args.columns c.args.rows c.args.text.now c.loop-number.left.now c.loop-number.number c.loop-number.start c.loop-number.invariant c.in-Some.line.now c.in-Some.later.now
    c.in-Some.ensures found c.found_in.ensures (goes_on found c.in_default-found_in.not-Nothing c.in_default-found_in.not-End c.in_default-found_in.not-Wrong)
    c.take.new.self (c.take.ensures c.args.columns c.loop-number.invariant.before c.loop-number.invariant.values)
