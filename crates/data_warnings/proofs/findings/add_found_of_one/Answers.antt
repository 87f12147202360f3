-- Member by member.
use Rattle.data_warnings.specs.Findings.{found_of_two}
use Rattle.data_warnings.proofs.RangeLaws.{listed_more}
use Rattle.data_warnings.proofs.findings.add_found_of_one.Goals as goal

pub loop-j-preserved : goal.loop-j-preserved
loop-j-preserved c = record {
  end = c.loop-j.invariant.end;
  found = listed_more (found_of_two c.args.model.now c.args.rule c.args.i) c.loop-j.j c.args.all.now.items c.loop-j.all.items c.add_found_of_two.new.all.items c.loop-j.invariant.found c.in_ok-add_found_of_two.ensures;
}
