-- A fault is that of these names.
use Rattle.plan_files.proofs.Common.{sym, rules, length-map, row_names, row_fields}
use Rattle.plan_files.proofs.reading.multiplier_values.Goals as goal

pub returns-clause-fault : goal.returns-clause-fault
returns-clause-fault c =
    c.read_values.ensures.fault (row_names c.args.sets.now c.args.names.now) (sym (length-map c.args.names.now (row_fields c.args.sets.now))) (λ record_read place told. search rules)
