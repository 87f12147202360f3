-- Member by member.
use Rattle.data_warnings.specs.Findings.{found_at}
use Rattle.data_warnings.proofs.RangeLaws.{listed_more}
use Rattle.data_warnings.proofs.findings.add_found_of_two.Goals as goal

pub loop-k-preserved : goal.loop-k-preserved
loop-k-preserved c = record {
  end = c.loop-k.invariant.end;
  found = listed_more (found_at c.args.model.now c.args.rule c.args.i c.args.j) c.loop-k.k c.args.all.now.items c.loop-k.all.items c.add_found_at.new.all.items c.loop-k.invariant.found c.in_ok-add_found_at.ensures;
}
