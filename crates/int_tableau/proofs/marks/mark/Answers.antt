-- One entry after another.
use Rattle.std.proofs.Common.{◌+◌, ◌%◌, true, set, take, sym, ap, ◌∙◌, subst, length-set}
use Rattle.int_tableau.specs.Marks.{AreMarked}
use Rattle.int_tableau.proofs.MarkLaws.{marked-more, all-marked}
use Rattle.int_tableau.proofs.marks.mark.Goals as goal

pub loop-entry-preserved : goal.loop-entry-preserved
loop-entry-preserved g c = record {
  marked =
      subst (λ k. AreMarked (set c.loop-entry.marks (k % 256) true) (take (c.loop-entry.entry-index + 1) c.args.entries.now)) (ap (λ e. e.0) (sym c.entry-item.is))
      (marked-more c.loop-entry.marks c.args.entries.now c.loop-entry.entry-index c.entry-item.result c.loop-entry-test.true c.loop-entry.invariant.many c.loop-entry.invariant.marked);
  many = length-set c.loop-entry.marks (c.entry-item.result.0 % 256) true ∙ c.loop-entry.invariant.many;
}

pub returns : goal.returns
returns g c = all-marked c.loop-entry.marks c.args.entries.now c.loop-entry.entry-index c.loop-entry-test.false c.loop-entry.invariant.marked
