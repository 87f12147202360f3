-- The entry is put at the end of its column, if there is one.
use Rattle.variable_elimination.proofs.Common.{rules, ℤ, List, ◌∷◌, [], ◌++◌, sym, ap, ◌∙◌, w128, to_z-of_z, RowName}
use mir.Val.{SFits}
use Rattle.variable_elimination.proofs.CellSteps.{cell-added, cell-left}
use Rattle.variable_elimination.proofs.cells.add_cell.Goals as goal

pub returns : goal.returns
returns c =
    let e = c.args.entry.now in
    let new = c.get_mut.follows.lender c.push.new.self in
    let column = c.in-Some.column.now in
    let fits : SFits w128 e.1 = search rules in
    let cell : ℤ → List (RowName × ℤ) = λ n. column.items ++ (c.args.name, n) ∷ [] in
    cell-added e.0 c.args.name e.1 c.args.columns.now new column c.push.new.self (sym c.in-Some.ensures.value) (c.in_ok-push.ensures.items ∙ ap cell (to_z-of_z w128 e.1 fits))
    ((c.get_mut.follows.holds c.push.new.self).3 (search rules)).0

pub returns-in_default : goal.returns-in_default
returns-in_default c =
    let e = c.args.entry.now in
    cell-left e.0 c.args.name e.1 c.args.columns.now c.get_mut.follows.lender-at-none (sym c.in_default.ensures.value) c.get_mut.follows.holds-at-none
