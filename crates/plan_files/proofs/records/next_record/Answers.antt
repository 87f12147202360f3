-- A record is the first of those that are left.
use Rattle.csv.specs.Records.{fields_of}
use Rattle.plan_files.proofs.ReaderLaws.{next_is}
use Rattle.plan_files.proofs.records.next_record.Goals as goal

pub returns : goal.returns
returns c rows left =
    next_is c.args.reader.now c.read_byte_record.new.self rows c.in-Ok.found (fields_of c.read_byte_record.new.row) left (c.in-Ok.ensures.reads left.untrimmed left.ready) (c.in-Ok.ensures.ready left.untrimmed)
