use Rattle.mathprog_data.proofs.Common.{subst, sym, length, AreKept}
use Rattle.mathprog_data.specs.ValuesView.AreKept.{none}
use Rattle.mathprog_data.proofs.values.Values.new.Goals as goal

pub invariant_of-result : goal.invariant_of-result
invariant_of-result c = subst (AreKept (length c.new.result.items)) (sym c.new-2.ensures.items) none
