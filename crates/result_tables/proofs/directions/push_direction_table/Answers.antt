-- The heading, and the records.
use Rattle.result_tables.proofs.Common.{codes, append_assoc, ◌∙◌, on_ok_weaker, records_text, heading, direction_table}
use Rattle.result_tables.proofs.directions.push_direction_table.Goals as goal

pub returns : goal.returns
returns c =
    on_ok_weaker c.push_chosen_values.result
    (λ written.
    rw c.in_ok-push_heading.ensures at written
    ∙ append_assoc c.args.out.now.items (heading (codes "Direction")) (records_text (direction_table c.args.sets.now c.args.direction.now).records))
    c.push_chosen_values.ensures
