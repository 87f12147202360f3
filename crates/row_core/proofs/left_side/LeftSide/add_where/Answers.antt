-- One position after another.
use Rattle.row_core.proofs.Common.{◌+◌, refl, sym, ap, ◌∙◌, subst, Side, IsTermWhere}
use Rattle.row_core.proofs.RepeatedLaws.{with_rest, chosen-begin, chosen-step, chosen-skip, chosen-end}
use Rattle.row_core.proofs.left_side.LeftSide.add_where.Goals.{in-Some+in_ok-add, in_default}
use Rattle.row_core.proofs.left_side.LeftSide.add_where.Goals as goal

pub loop-i-init : goal.loop-i-init
loop-i-init g c chosen term gives = refl

pub loop-i-preserved : goal.loop-i-preserved
loop-i-preserved g c chosen term gives =
    let n = c.args.count in
    let i = c.loop-i.i in
    let here = gives i c.term.result c.loop-i-test.true c.term.ensures in
    let rest : Side → Side = with_rest chosen term n (i + 1) in
    c.loop-i.invariant chosen term gives
    ∙ elim c.match-term.branch [
      | in-Some+in_ok-add w ↦
          chosen-step chosen term n i c.loop-i.self (w.in-Some.variable, w.in-Some.coefficient) c.loop-i-test.true
          (subst (IsTermWhere (chosen i) (term i)) w.in-Some.is here)
          ∙ ap rest (sym (w.self-is ∙ w.in_ok-add.ensures))
      | in_default w ↦
          chosen-skip chosen term n i c.loop-i.self c.loop-i-test.true (subst (IsTermWhere (chosen i) (term i)) w.in_default.is here)
          ∙ ap rest (sym w.self-is)
    ]

pub returns : goal.returns
returns g c chosen term gives =
    sym (chosen-end chosen term c.args.count c.loop-i.i c.loop-i.self c.loop-i-test.false)
    ∙ sym (c.loop-i.invariant chosen term gives)
    ∙ chosen-begin chosen term c.args.count c.args.self.now
