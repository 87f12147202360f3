use Rattle.row_core.proofs.Common.{◌≡◌, map, get_or, set, ap, ap₂, ◌∙◌, get_or_default, map-set, Rational, plus, value_of, Term, Var, seen}
use Rattle.row_core.proofs.terms.increase.Goals as goal

pub returns-clause-added : goal.returns-clause-added
returns-clause-added c d =
    let terms = c.args.list.now.items in
    let at = c.args.at in
    let increased : Term = record { variable = c.index_mut.result.now.variable; coefficient = c.in-Ok.sum } in
    let written : c.index_mut.result.now ≡ get_or terms at d = c.index_mut.ensures.value ∙ get_or_default terms at c.index_mut.result.now d c.requires in
    let read : c.index.result.now ≡ get_or terms at d = c.index.ensures ∙ get_or_default terms at c.index.result.now d c.requires in
    let sum : value_of c.in-Ok.sum ≡ plus (value_of (get_or terms at d).coefficient) (value_of c.args.by) =
    c.in-Ok.ensures.value ∙ ap (λ (t : Term). plus (value_of t.coefficient) (value_of c.args.by)) read in
    map-set seen terms at increased
    ∙ ap₂ (λ (v : Var) (k : Rational). set (map seen terms) at (v, k)) (ap (λ (t : Term). t.variable) written) sum
