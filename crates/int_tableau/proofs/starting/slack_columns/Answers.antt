use Rattle.std.proofs.Common.{◌∙◌, sym}
use Rattle.int_tableau.proofs.LoopLaws.{slacks-step, slacks-end}
use Rattle.int_tableau.proofs.starting.slack_columns.Goals as goal

pub loop-position-preserved : goal.loop-position-preserved
loop-position-preserved c =
    let layout = c.args.layout.now in
    c.loop-position.invariant ∙ slacks-step layout.width layout.rows c.loop-position.position c.loop-position.columns.items c.push.new.self.items c.loop-position-test.true c.in_ok-push.ensures.items

pub returns : goal.returns
returns c =
    let layout = c.args.layout.now in
    sym (c.loop-position.invariant ∙ slacks-end layout.width layout.rows c.loop-position.position c.loop-position.columns.items c.loop-position-test.false)
