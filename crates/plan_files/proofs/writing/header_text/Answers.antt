-- All fields of the header.
use Rattle.plan_files.proofs.Common.{◌≡◌, arith, fields_of, header}
use Rattle.plan_files.proofs.writing.header_text.Goals as goal

pub returns : goal.returns
returns c =
    let ten : c.loop-name.name-index ≡ 10 = omega (arith, c.loop-name-test.false, c.loop-name.auto.name-index-end) in
    let all : fields_of c.loop-name.fields ≡ header = rw ten at c.loop-name.invariant.0 in
    rw (c.new-out.ensures.items, all) at c.in_ok-push_record.ensures
