use Rattle.row_book.proofs.Common.{◌≢◌, ◌∙◌, Some, ap, arith, rules, Index, IsEquation, variable}
use Rattle.row_book.proofs.KindLaws.{none-defined, nothing-defined, trade-defined, variable-defined}
use Rattle.row_book.proofs.defined.defined_variable.Goals as goal

pub returns-then-name-lt-EQ_SPECIFIED_DEMAND : goal.returns-then-name-lt-EQ_SPECIFIED_DEMAND
returns-then-name-lt-EQ_SPECIFIED_DEMAND c = nothing-defined c.args.name c.then-name-lt-EQ_SPECIFIED_DEMAND.either

pub returns-in-0 : goal.returns-in-0
returns-in-0 c =
    let equation : IsEquation c.args.name.eq = (omega arith, omega arith) in
    none-defined c.args.name c.defined_kind.result equation c.defined_kind.ensures c.in-0.is

pub returns-in-3 : goal.returns-in-3
returns-in-3 c =
    let equation : IsEquation c.args.name.eq = (omega arith, omega arith) in
    c.other_trade.ensures ∙ trade-defined c.args.name c.defined_kind.result equation c.defined_kind.ensures c.in-3.is

pub returns-in_default : goal.returns-in_default
returns-in_default c =
    let equation : IsEquation c.args.name.eq = (omega arith, omega arith) in
    let some : c.defined_kind.result ≢ 0 = search rules in
    let other : c.defined_kind.result ≢ 3 = search rules in
    ap (λ (i : Index). Some (variable c.defined_kind.result i)) c.tidied.ensures
    ∙ variable-defined c.args.name c.defined_kind.result equation c.defined_kind.ensures some other
