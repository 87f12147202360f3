-- There are as many values as names, and a fault is that of these names.
use Rattle.proof_files.proofs.Common.{◌≡◌, List, length, sym, ◌∙◌, rules, Fields, proof_names}
use Rattle.proof_files.proofs.PartLaws.{names_many}
use Rattle.proof_files.proofs.reading.proof_values.Goals as goal

pub returns-clause-read : goal.returns-clause-read
returns-clause-read c =
    let names : List Fields = proof_names c.args.sets.now c.args.vars.now c.args.names.now in
    let many : c.in_ok-count.count ≡ length names = c.in_ok-count.ensures.count ∙ sym (names_many c.args.sets.now c.args.vars.now c.args.names.now) in
    c.read_values.ensures.read names many (λ record_read place told. search rules)

pub returns-clause-fault : goal.returns-clause-fault
returns-clause-fault c =
    let names : List Fields = proof_names c.args.sets.now c.args.vars.now c.args.names.now in
    let many : c.in_ok-count.count ≡ length names = c.in_ok-count.ensures.count ∙ sym (names_many c.args.sets.now c.args.vars.now c.args.names.now) in
    c.read_values.ensures.fault names many (λ record_read place told. search rules)
