-- One column after another.
use Rattle.std.proofs.Common.{List, get_or, refl, sym, ◌∙◌, ap, subst}
use Rattle.std.specs.Prelude.{IsTrue}
use Rattle.row_core.specs.declared.Var.{Var}
use Rattle.row_core.specs.Numbers.{ascends, keys_of}
use Rattle.row_core.specs.Order.{var_cmp}
use Rattle.rounded_solver.proofs.KeyLaws.{keys-end, keys-next, keys-valued, no_variable}
use Rattle.rounded_solver.proofs.plans.plan_of.Goals as goal

pub loop-column-preserved : goal.loop-column-preserved
loop-column-preserved c =
    let vs = c.args.columns.now in
    let i = c.loop-column.column-index in
    let v : Var = get_or vs i no_variable in
    keys-next c.loop-column.entries.items c.push.new.self.items vs i no_variable v c.unwrap_or-value.result c.in_ok-push.ensures.items refl c.loop-column-test.true c.loop-column.invariant

pub of-requires : goal.of-requires
of-requires c =
    subst (λ (vs : List Var). IsTrue (ascends var_cmp vs)) (sym (keys-end c.loop-column.entries.items c.args.columns.now c.loop-column.column-index c.loop-column-test.false c.loop-column.invariant)) c.requires

pub returns : goal.returns
returns c =
    ap keys_of c.of.ensures ∙ keys-valued c.loop-column.entries.items ∙ keys-end c.loop-column.entries.items c.args.columns.now c.loop-column.column-index c.loop-column-test.false c.loop-column.invariant
