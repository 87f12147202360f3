-- Member by member.
use Rattle.data_warnings.specs.Findings.{found_of_one}
use Rattle.data_warnings.proofs.RangeLaws.{listed_more}
use Rattle.data_warnings.proofs.findings.add_found.Goals as goal

pub loop-i-preserved : goal.loop-i-preserved
loop-i-preserved c = record {
  end = c.loop-i.invariant.end;
  found = listed_more (found_of_one c.args.model.now c.args.rule) c.loop-i.i c.args.all.now.items c.loop-i.all.items c.add_found_of_one.new.all.items c.loop-i.invariant.found c.in_ok-add_found_of_one.ensures;
}
