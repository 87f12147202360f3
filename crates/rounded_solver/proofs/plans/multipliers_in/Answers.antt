-- One row after another.
use Rattle.std.proofs.Common.{List, sym, ◌∙◌, ap, subst}
use Rattle.std.specs.Prelude.{IsTrue}
use Rattle.row_core.specs.declared.RowName.{RowName}
use Rattle.row_core.specs.Numbers.{ascends, keys_of}
use Rattle.row_core.specs.Order.{row_name_cmp}
use Rattle.rounded_solver.proofs.KeyLaws.{all-named, names-end, names-next, names-valued}
use Rattle.rounded_solver.proofs.plans.multipliers_in.Goals as goal

pub loop-row-preserved : goal.loop-row-preserved
loop-row-preserved c =
    names-next c.loop-row.entries.items c.push.new.self.items c.args.rows.now c.loop-row.row-index c.row-item.result c.unwrap_or-multiplier.result c.loop-row-test.true c.row-item.is c.in_ok-push.ensures.items c.loop-row.invariant

pub of-requires : goal.of-requires
of-requires c =
    subst (λ (names : List RowName). IsTrue (ascends row_name_cmp names)) (sym (names-end c.loop-row.entries.items c.args.rows.now c.loop-row.row-index c.loop-row-test.false c.loop-row.invariant)) c.requires

pub returns : goal.returns
returns c =
    all-named c.args.rows.now c.of.result
    (ap keys_of c.of.ensures ∙ names-valued c.loop-row.entries.items ∙ names-end c.loop-row.entries.items c.args.rows.now c.loop-row.row-index c.loop-row-test.false c.loop-row.invariant) c.requires
