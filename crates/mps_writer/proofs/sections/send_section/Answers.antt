use Rattle.mps_writer.proofs.Common.{◌≡◌, ◌∙◌, ◌+◌, ◌-◌, ◌<◌, ◌++◌, ℕ, List, false, refl, ap, sym, subst, arith, flat_map, range_with_len, RowContents, rows_of_equation, output, numbered, HasNoSides, lines_in}
use Rattle.mps_writer.proofs.SectionLaws.{equation-next, equation_lines, equations-end, section-whole}
use Rattle.mps_writer.proofs.SideLaws.{sides-more}
use Rattle.mps_writer.proofs.TakenLaws.{item-end, item-fails, item-taken, leaves-all}
use Rattle.mps_writer.proofs.sections.send_section.Goals as goal

pub loop-eq-init : goal.loop-eq-init
loop-eq-init g c =
    let rows : List RowContents = g.R.RowSource.rows c.args.rows.now in
    record {
      low = omega arith;
      rows = refl;
      sides = c.requires.sides;
      taken = leaves-all (c.args.buffer.now.items ++ flat_map (lines_in c.args.section c.args.sets.now) (numbered rows)) _ (output (g.K.Sink.written c.args.out.now) (g.K.Sink.accepted c.args.out.now))
          (ap (λ (text : List ℕ). c.args.buffer.now.items ++ text) (sym (section-whole c.args.section c.args.sets.now rows c.requires.in_order c.requires.named)));
      faults = omega arith;
    }

pub returns-in-Err-clause-taken : goal.returns-in-Err-clause-taken
returns-in-Err-clause-taken g c =
    let rows : List RowContents = g.R.RowSource.rows c.args.rows.now in
    let i : ℕ = c.loop-eq.eq in
    let f : ℕ → List ℕ = equation_lines c.args.section c.args.sets.now rows in
    let inside : i < 65 = omega (arith, c.loop-eq-test.true) in
    item-fails f i (range_with_len (i + 1) (65 - (i + 1))) (range_with_len i (65 - i)) (c.args.buffer.now.items ++ flat_map (lines_in c.args.section c.args.sets.now) (numbered rows)) c.loop-eq.buffer.items
    (equation_lines c.args.section c.args.sets.now (g.R.RowSource.rows c.loop-eq.rows) i) c.in-Err.fail
    (output (g.K.Sink.written c.args.out.now) (g.K.Sink.accepted c.args.out.now)) (output (g.K.Sink.written c.loop-eq.out) (g.K.Sink.accepted c.loop-eq.out)) (output (g.K.Sink.written c.send_equation.new.out) (g.K.Sink.accepted c.send_equation.new.out)) (g.K.Sink.faults c.args.out.now) (g.K.Sink.faults c.loop-eq.out) (g.K.Sink.faults c.send_equation.new.out)
    (equation-next i inside) (ap (λ (rs : List RowContents). equation_lines c.args.section c.args.sets.now rs i) c.loop-eq.invariant.rows) c.loop-eq.invariant.taken c.loop-eq.invariant.faults c.in-Err.ensures.taken

pub loop-eq-preserved : goal.loop-eq-preserved
loop-eq-preserved g c =
    let rows : List RowContents = g.R.RowSource.rows c.args.rows.now in
    let i : ℕ = c.loop-eq.eq in
    let f : ℕ → List ℕ = equation_lines c.args.section c.args.sets.now rows in
    let inside : i < 65 = omega (arith, c.loop-eq-test.true) in
    record {
      low = omega arith;
      rows = c.in-Ok.ensures.rows ∙ c.loop-eq.invariant.rows;
      sides = sides-more rows c.loop-eq.sides i c.in-Ok.some inside c.loop-eq.invariant.sides
          (subst (λ (rs : List RowContents). c.in-Ok.some ≡ false → HasNoSides (rows_of_equation i rs)) c.loop-eq.invariant.rows c.in-Ok.ensures.sides);
      taken = item-taken f i (range_with_len (i + 1) (65 - (i + 1))) (range_with_len i (65 - i)) (c.args.buffer.now.items ++ flat_map (lines_in c.args.section c.args.sets.now) (numbered rows)) c.loop-eq.buffer.items
          (equation_lines c.args.section c.args.sets.now (g.R.RowSource.rows c.loop-eq.rows) i) c.send_equation.new.buffer.items
          (output (g.K.Sink.written c.args.out.now) (g.K.Sink.accepted c.args.out.now)) (output (g.K.Sink.written c.loop-eq.out) (g.K.Sink.accepted c.loop-eq.out)) (output (g.K.Sink.written c.send_equation.new.out) (g.K.Sink.accepted c.send_equation.new.out))
          (equation-next i inside) (ap (λ (rs : List RowContents). equation_lines c.args.section c.args.sets.now rs i) c.loop-eq.invariant.rows) c.loop-eq.invariant.taken c.in-Ok.ensures.taken.0;
      faults = omega (arith, c.loop-eq.invariant.faults, c.in-Ok.ensures.taken.1);
    }

pub returns-clause-taken : goal.returns-clause-taken
returns-clause-taken g c =
    let rows : List RowContents = g.R.RowSource.rows c.args.rows.now in
    let i : ℕ = c.loop-eq.eq in (
      item-end (equation_lines c.args.section c.args.sets.now rows) (range_with_len i (65 - i)) (c.args.buffer.now.items ++ flat_map (lines_in c.args.section c.args.sets.now) (numbered rows)) c.loop-eq.buffer.items
          (output (g.K.Sink.written c.args.out.now) (g.K.Sink.accepted c.args.out.now)) (output (g.K.Sink.written c.loop-eq.out) (g.K.Sink.accepted c.loop-eq.out)) (equations-end i (omega (arith, c.loop-eq-test.false))) c.loop-eq.invariant.taken,
      c.loop-eq.invariant.faults,
    )

pub send_equation-requires-clause-sides : goal.send_equation-requires-clause-sides
send_equation-requires-clause-sides g c = λ none.
    let i : ℕ = c.loop-eq.eq in
    let inside : i < 65 = omega (arith, c.loop-eq-test.true) in
    subst (λ (rs : List RowContents). HasNoSides (rows_of_equation i rs)) (sym c.loop-eq.invariant.rows) (c.loop-eq.invariant.sides.each i inside none)
