use Rattle.row_book.proofs.Common.{◌<◌, ◌∙◌, ◌++◌, ℕ, List, subst, sym, arith, filter, Var, entry_variables, is_before_kind, AreSameVariables}
use Rattle.row_book.proofs.KindVariableLaws.{all-added, kind-added, later, none-added}
use Rattle.row_book.proofs.kind_variables.add_by_kind.Goals as goal

pub kinds-init : goal.kinds-init
kinds-init c = none-added c.args.vars.now.items (entry_variables c.args.rows.now)

pub returns-in-Ok-None : goal.returns-in-Ok-None
returns-in-Ok-None c =
    let old : List Var = c.args.vars.now.items in
    let all : List Var = entry_variables c.args.rows.now in
    subst (λ (vs : List Var). AreSameVariables vs (old ++ all)) (sym c.in-Ok-None.ensures.added)
    (all-added c.kinds.kind old c.kinds.vars.items all c.kinds.invariant (sym c.in-Ok-None.ensures.next ∙ c.in-Ok-None.field-0-is))

pub kinds-smaller : goal.kinds-smaller
kinds-smaller c =
    let all : List Var = entry_variables c.args.rows.now in
    let less : c.kinds.kind < c.in-Ok-Some.next = later c.kinds.kind c.in-Ok-Some.next all (sym c.in-Ok-Some.ensures.next ∙ c.in-Ok-Some.field-0-is) in
    omega (arith, less, c.bounded-kind.ensures.same, c.bounded-kind.ensures.bound)

pub kinds-preserved : goal.kinds-preserved
kinds-preserved c =
    let old : List Var = c.args.vars.now.items in
    let all : List Var = entry_variables c.args.rows.now in
    subst (λ (n : ℕ). AreSameVariables c.add_kind.new.vars.items (old ++ filter (is_before_kind n) all)) (sym c.bounded-kind.ensures.same)
    (subst (λ (vs : List Var). AreSameVariables vs (old ++ filter (is_before_kind c.in-Ok-Some.next) all)) (sym c.in-Ok-Some.ensures.added)
    (kind-added c.kinds.kind c.in-Ok-Some.next old c.kinds.vars.items all c.kinds.invariant (sym c.in-Ok-Some.ensures.next ∙ c.in-Ok-Some.field-0-is)))
