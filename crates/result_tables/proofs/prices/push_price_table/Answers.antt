-- The heading, and the records.
use Rattle.result_tables.proofs.Common.{codes, append_assoc, ◌∙◌, on_ok_weaker, records_text, heading, price_table}
use Rattle.result_tables.proofs.prices.push_price_table.Goals as goal

pub returns-clause-text : goal.returns-clause-text
returns-clause-text c =
    on_ok_weaker c.push_prices.result
    (λ written.
    rw c.in_ok-push_heading.ensures at written
    ∙ append_assoc c.args.out.now.items (heading (codes "FuelPrice")) (records_text (price_table c.args.sets.now c.args.rows.now c.args.multipliers.now).records))
    c.push_prices.ensures.text
