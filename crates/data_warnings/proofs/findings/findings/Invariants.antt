-- What the rules so far find.
use Rattle.data_warnings.proofs.Common.{◌≡◌, take, flat_map, found}
use Rattle.data_warnings.proofs.findings.findings.Given as goal

abbrev pub invariant-loop-rule : goal.invariant-loop-rule
invariant-loop-rule l = l.all.items ≡ flat_map (found l.model) (take l.rule-index l.rule-items)
