use Rattle.mps_writer.proofs.Common.{◌++◌, List, ap, ◌∙◌, refl, arith, Entry}
use Rattle.mps_writer.proofs.GatheredLaws.{gather-end, gather-turn, gathered-all}
use Rattle.mps_writer.proofs.kind_entries.add_kind.Goals as goal

pub loop-eq-init : goal.loop-eq-init
loop-eq-init g c = record {
  low = omega arith;
  rows = refl;
  entries = ap (λ (es : List Entry). c.args.entries.now.items ++ es) (gathered-all c.args.kind (g.R.RowSource.rows c.args.rows.now) c.requires.in_order c.requires.equations);
}

pub loop-eq-preserved : goal.loop-eq-preserved
loop-eq-preserved g c =
    let source = g.R.RowSource in
    record {
      low = omega arith;
      rows = c.in-Ok.ensures.rows ∙ c.loop-eq.invariant.rows;
      entries = gather-turn c.args.kind (source.rows c.args.rows.now) (source.rows c.loop-eq.rows) c.loop-eq.eq c.loop-eq.entries.items c.add_equation.new.entries.items _
          c.loop-eq.invariant.rows (omega (arith, c.loop-eq-test.true)) c.loop-eq.invariant.entries c.in-Ok.ensures.added;
    }

pub returns-clause-added : goal.returns-clause-added
returns-clause-added g c = gather-end c.args.kind (g.R.RowSource.rows c.args.rows.now) c.loop-eq.eq c.loop-eq.entries.items _ (omega (arith, c.loop-eq-test.false)) c.loop-eq.invariant.entries
