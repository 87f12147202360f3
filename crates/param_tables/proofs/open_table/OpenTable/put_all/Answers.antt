use Rattle.param_tables.proofs.Common.{drop}
use Rattle.param_tables.proofs.ReplacedLaws.{put_kept, some_put}
use Rattle.param_tables.proofs.open_table.OpenTable.put_all.Goals as goal

pub returns-in_err-put-clause-some : goal.returns-in_err-put-clause-some
returns-in_err-put-clause-some c =
    some_put c.loop-i.i c.args.puts.now c.args.self.now c.put.new.self
    (put_kept (drop c.loop-i.i c.args.puts.now) c.args.self.now c.loop-i.self c.put.new.self c.loop-i.invariant.put c.in_err-put.ensures.unchanged)

pub returns-clause-some : goal.returns-clause-some
returns-clause-some c = some_put c.loop-i.i c.args.puts.now c.args.self.now c.loop-i.self c.loop-i.invariant.put
