-- Row by row.
use Rattle.std.proofs.Common.{ℕ, ◌+◌, List, ◌++◌, ◌∷◌, [], drop, sym, ap, ◌∙◌, subst}
use Rattle.row_core.specs.declared.Row.{Row}
use Rattle.plan_files.specs.Listed.{IsListedRow, name_of_row}
use Rattle.price_tables.proofs.TextLaws.{listed_at, rows_next, rows_text}
use Rattle.price_tables.proofs.tables.push_rows.Goals as goal

pub push_row-requires-clause-listed : goal.push_row-requires-clause-listed
push_row-requires-clause-listed c =
    let here = listed_at c.args.sets.now c.args.rows.now c.loop-row.row-index c.row-item.result c.requires c.loop-row-test.true in
    (subst (λ (row : Row). IsListedRow c.args.sets.now (name_of_row row)) (sym c.row-item.is) here).0

pub push_row-requires-clause-within : goal.push_row-requires-clause-within
push_row-requires-clause-within c =
    let here = listed_at c.args.sets.now c.args.rows.now c.loop-row.row-index c.row-item.result c.requires c.loop-row-test.true in
    (subst (λ (row : Row). IsListedRow c.args.sets.now (name_of_row row)) (sym c.row-item.is) here).1

pub loop-row-preserved : goal.loop-row-preserved
loop-row-preserved c =
    let of : List Row → List ℕ = rows_text c.args.sets.now c.args.shown.form c.args.multipliers.now c.args.shown.table in
    let left : List ℕ = of (drop (c.loop-row.row-index + 1) c.args.rows.now) in
    let written = ap (λ (row : Row). c.loop-row.lines ++ of (row ∷ [])) c.row-item.is in
    ap (λ t. t ++ left) (c.in_ok-push_row.ensures ∙ written)
    ∙ rows_next c.args.sets.now c.args.shown.form c.args.multipliers.now c.args.shown.table c.args.rows.now c.loop-row.row-index c.row-item.result c.loop-row.lines _ c.loop-row-test.true c.loop-row.invariant
