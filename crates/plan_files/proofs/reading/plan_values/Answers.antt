-- A fault is that of these names.
use Rattle.plan_files.proofs.Common.{sym, rules, length-map, variable_names, variable_fields}
use Rattle.plan_files.proofs.reading.plan_values.Goals as goal

pub returns-clause-fault : goal.returns-clause-fault
returns-clause-fault c =
    c.read_values.ensures.fault (variable_names c.args.sets.now c.args.vars.now) (sym (length-map c.args.vars.now (variable_fields c.args.sets.now))) (λ record_read place told. search rules)
