-- Record by record.
use Rattle.solver_answers.proofs.Common.{false, length, true, length-map, fields_of, variable_names, Fields, records_of, IsNext, variable_fields}
use Rattle.solver_answers.proofs.TableLaws.{all_read, begun, broken_at, goes_unless_wrong, no_header, one_more}
use Rattle.solver_answers.proofs.tables.read_table.Goals as goal

pub returns-in-Err-clause-fault : goal.returns-in-Err-clause-fault
returns-in-Err-clause-fault c =
    let all = records_of c.args.text.now in
    no_header (variable_names c.args.sets.now c.args.vars.now) all c.read_header.new.reader c.in-Err.fail c.header_fail.result (c.in-Err.ensures all c.reader_of-reader.ensures) c.header_fail.ensures

pub loop-number-init : goal.loop-number-init
loop-number-init c =
    let all = records_of c.args.text.now in
    begun (variable_names c.args.sets.now c.args.vars.now) all (length c.args.vars.now) c.read_header.new.reader c.in_ok-start.start (c.in_default.ensures all c.reader_of-reader.ensures) c.in_ok-start.ensures

pub returns-then-not-branch-clause-answer : goal.returns-then-not-branch-clause-answer
returns-then-not-branch-clause-answer c =
    let r : Fields = fields_of c.next_record.new.fields in
    let so_far = c.loop-number.invariant in
    let next : IsNext c.next_record.new.reader so_far.later false r = rw c.if-not-branch.true at (c.in_ok-next_record.ensures so_far.later so_far.left) in
    all_read (variable_names c.args.sets.now c.args.vars.now) (records_of c.args.text.now) (length c.args.vars.now) c.loop-number.reader c.next_record.new.reader c.loop-number.number c.loop-number.start r so_far next
    (length-map c.args.vars.now (variable_fields c.args.sets.now))

pub returns-in-Wrong-clause-fault : goal.returns-in-Wrong-clause-fault
returns-in-Wrong-clause-fault c =
    let r : Fields = fields_of c.next_record.new.fields in
    let so_far = c.loop-number.invariant in
    let next : IsNext c.next_record.new.reader so_far.later true r = rw c.if-not-branch.false at (c.in_ok-next_record.ensures so_far.later so_far.left) in
    broken_at (variable_names c.args.sets.now c.args.vars.now) (records_of c.args.text.now) (length c.args.vars.now) c.loop-number.reader c.next_record.new.reader c.loop-number.number c.loop-number.start r so_far next
    c.in-Wrong.ensures

pub loop-number-preserved : goal.loop-number-preserved
loop-number-preserved c =
    let names = variable_names c.args.sets.now c.args.vars.now in
    let r : Fields = fields_of c.next_record.new.fields in
    let so_far = c.loop-number.invariant in
    let next : IsNext c.next_record.new.reader so_far.later true r = rw c.if-not-branch.false at (c.in_ok-next_record.ensures so_far.later so_far.left) in
    let found = c.found_in_record.result in
    one_more names (records_of c.args.text.now) (length c.args.vars.now) c.loop-number.reader c.next_record.new.reader c.loop-number.number c.loop-number.start r so_far next found c.found_in_record.ensures
    (goes_unless_wrong names r found c.found_in_record.ensures c.in_default-found_in_record.not-Wrong) c.take.new.self (c.take.ensures (length c.args.vars.now) so_far.before so_far.values)
