-- Row by row.
use Rattle.certificate_checker.proofs.Common.{◌≡◌, ℕ, ◌+◌, ◌<◌, List, Option, length, drop, sym, ap, ◌∙◌, subst, with_items_is, Frac, Rational, RowName, row_name_cmp, value_in, continued, entries_at, variable_at, sum_at}
use Rattle.certificate_checker.proofs.ColumnSteps.{AreSumsWith, sums_init, sums_next, sums_done}
use Rattle.certificate_checker.proofs.columns.column_sums.Goals as goal

pub loop-row-init : goal.loop-row-init
loop-row-init c = sums_init (value_in row_name_cmp c.args.multipliers.now) c.args.vars.now c.args.rows.now c.in_ok-sums.sums.items c.in_ok-sums.ensures.many c.in_ok-sums.ensures.each

pub add_row-requires : goal.add_row-requires
add_row-requires c = record { ascending = c.requires; many = ap length c.deref_mut.ensures.value ∙ c.loop-row.invariant.many }

pub loop-row-preserved : goal.loop-row-preserved
loop-row-preserved c =
    let value : RowName → Rational = value_in row_name_cmp c.args.multipliers.now in
    let rows = c.args.rows.now in
    let vars = c.args.vars.now in
    let i = c.loop-row.row-index in
    let row = c.row-item.result in
    let new = c.add_row.new.sums in
    let items = c.loop-row.sums.items in
    let lent : c.deref_mut.result.now ≡ items = c.deref_mut.ensures.value in
    let same : length new ≡ length items = c.add_row.auto.sums ∙ ap length lent in
    let size : length new ≡ c.loop-row.sums.len = same ∙ sym c.loop-row.sums.ok.0 in
    let added : (k : ℕ) → k < length vars → sum_at new k ≡ continued value (sum_at items k) (entries_at row.name (variable_at vars k) row.entries.items) =
    λ k l. c.add_row.ensures k l ∙ ap (λ (xs : List (Option Frac)). continued value (sum_at xs k) (entries_at row.name (variable_at vars k) row.entries.items)) lent in
    subst (AreSumsWith value vars rows (drop (i + 1) rows)) (sym (with_items_is c.loop-row.sums new size))
    (sums_next value vars rows i row items new c.loop-row-test.true c.row-item.is same added c.loop-row.invariant)

pub returns : goal.returns
returns c = sums_done (value_in row_name_cmp c.args.multipliers.now) c.args.vars.now c.args.rows.now c.loop-row.row-index c.loop-row.sums.items c.loop-row-test.false c.loop-row.invariant
