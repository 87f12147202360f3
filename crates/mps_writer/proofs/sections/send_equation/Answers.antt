use Rattle.std.proofs.Common.{◌≡◌, ◌∙◌, ◌++◌, ℕ, List, [], append-nil, refl, ap, sym, subst, arith}
use Rattle.mps_writer.proofs.Common.{AllByRecursion, flat_map, is_zero, RowContents, contents_of, rows_of_equation, all-of_equation, output, IsNamedRow, HasNoSides, lines_in}
use Rattle.mps_writer.proofs.SideLaws.{no-lines, seen-more}
use Rattle.mps_writer.proofs.TakenLaws.{fails-now, item-end, item-fails, item-taken, leaves-all}
use Rattle.mps_writer.proofs.sections.send_equation.Goals as goal

pub rows-init : goal.rows-init
rows-init g c =
    let source = g.R.RowSource in
    let f : ℕ × RowContents → List ℕ = lines_in c.args.section c.args.sets.now in
    record {
      rows = c.start.ensures.rows;
      named = subst (λ (rs : List (ℕ × RowContents)). AllByRecursion (λ r. IsNamedRow c.args.sets.now r.1) rs) (sym c.start.ensures.ahead) (all-of_equation (IsNamedRow c.args.sets.now) c.args.eq (source.rows c.args.rows.now) c.requires.named);
      taken = leaves-all (c.args.buffer.now.items ++ flat_map f (rows_of_equation c.args.eq (source.rows c.args.rows.now))) (c.args.buffer.now.items ++ flat_map f (source.ahead c.start.new.self)) (output (g.K.Sink.written c.args.out.now) (g.K.Sink.accepted c.args.out.now))
          (ap (λ (rs : List (ℕ × RowContents)). c.args.buffer.now.items ++ flat_map f rs) (sym c.start.ensures.ahead));
      faults = omega arith;
      sides = λ none ahead. subst HasNoSides c.start.ensures.ahead ahead;
    }

pub returns-in-Ok-None-clause-taken : goal.returns-in-Ok-None-clause-taken
returns-in-Ok-None-clause-taken g c =
    let source = g.R.RowSource in
    let f : ℕ × RowContents → List ℕ = lines_in c.args.section c.args.sets.now in
    let both = rw c.in-Ok-None.field-0-is at c.in-Ok-None.ensures.answers in (
      item-end f (source.ahead c.rows.rows) (c.args.buffer.now.items ++ flat_map f (rows_of_equation c.args.eq (source.rows c.args.rows.now))) c.rows.buffer.items (output (g.K.Sink.written c.args.out.now) (g.K.Sink.accepted c.args.out.now)) (output (g.K.Sink.written c.rows.out) (g.K.Sink.accepted c.rows.out)) both.0 c.rows.invariant.taken,
      c.rows.invariant.faults,
    )

pub returns-in-Err-clause-taken : goal.returns-in-Err-clause-taken
returns-in-Err-clause-taken g c =
    let source = g.R.RowSource in
    let f : ℕ × RowContents → List ℕ = lines_in c.args.section c.args.sets.now in
    fails-now (c.args.buffer.now.items ++ flat_map f (rows_of_equation c.args.eq (source.rows c.args.rows.now))) (c.rows.buffer.items ++ flat_map f (source.ahead c.rows.rows)) (output (g.K.Sink.written c.args.out.now) (g.K.Sink.accepted c.args.out.now)) (output (g.K.Sink.written c.rows.out) (g.K.Sink.accepted c.rows.out))
    (g.K.Sink.faults c.args.out.now) (g.K.Sink.faults c.rows.out) c.rows.invariant.taken c.rows.invariant.faults

pub returns-in-Err-send_lines-clause-taken : goal.returns-in-Err-send_lines-clause-taken
returns-in-Err-send_lines-clause-taken g c =
    let source = g.R.RowSource in
    let f : ℕ × RowContents → List ℕ = lines_in c.args.section c.args.sets.now in
    let found = c.in-Ok-Some.next in
    let r : ℕ × RowContents = (found.0, contents_of found.1) in
    item-fails f r (source.ahead c.next.new.self) (source.ahead c.rows.rows) (c.args.buffer.now.items ++ flat_map f (rows_of_equation c.args.eq (source.rows c.args.rows.now))) c.rows.buffer.items (f r) c.in-Err-send_lines.fail
    (output (g.K.Sink.written c.args.out.now) (g.K.Sink.accepted c.args.out.now)) (output (g.K.Sink.written c.rows.out) (g.K.Sink.accepted c.rows.out)) (output (g.K.Sink.written c.send_lines.new.out) (g.K.Sink.accepted c.send_lines.new.out)) (g.K.Sink.faults c.args.out.now) (g.K.Sink.faults c.rows.out) (g.K.Sink.faults c.send_lines.new.out)
    (rw c.in-Ok-Some.field-0-is at c.in-Ok-Some.ensures.answers) refl c.rows.invariant.taken c.rows.invariant.faults c.in-Err-send_lines.ensures

pub rows-preserved : goal.rows-preserved
rows-preserved g c =
    let source = g.R.RowSource in
    let f : ℕ × RowContents → List ℕ = lines_in c.args.section c.args.sets.now in
    let found = c.in-Ok-Some.next in
    let r : ℕ × RowContents = (found.0, contents_of found.1) in
    let is = rw c.in-Ok-Some.field-0-is at c.in-Ok-Some.ensures.answers in
    record {
      rows = c.in-Ok-Some.ensures.rows ∙ c.rows.invariant.rows;
      named = (subst (λ (rs : List (ℕ × RowContents)). AllByRecursion (λ x. IsNamedRow c.args.sets.now x.1) rs) is c.rows.invariant.named).1;
      taken = item-taken f r (source.ahead c.next.new.self) (source.ahead c.rows.rows) (c.args.buffer.now.items ++ flat_map f (rows_of_equation c.args.eq (source.rows c.args.rows.now))) c.rows.buffer.items (f r) c.send_lines.new.buffer.items
          (output (g.K.Sink.written c.args.out.now) (g.K.Sink.accepted c.args.out.now)) (output (g.K.Sink.written c.rows.out) (g.K.Sink.accepted c.rows.out)) (output (g.K.Sink.written c.send_lines.new.out) (g.K.Sink.accepted c.send_lines.new.out)) is refl c.rows.invariant.taken c.in-Ok.ensures.0;
      faults = omega (arith, c.rows.invariant.faults, c.in-Ok.ensures.1);
      sides = λ none ahead.
          let both = seen-more c.rows.found (is_zero found.1.rhs) (sym c.is_side_seen-found.ensures ∙ none) in
          c.rows.invariant.sides both.0 (subst HasNoSides (sym is) (both.1, ahead));
    }

pub returns-in-Ok-None-clause-sides : goal.returns-in-Ok-None-clause-sides
returns-in-Ok-None-clause-sides g c = λ none.
    let both = rw c.in-Ok-None.field-0-is at c.in-Ok-None.ensures.answers in
    c.rows.invariant.sides none (subst HasNoSides (sym both.0) tt)

pub returns-then-has_right_sides-clause-taken : goal.returns-then-has_right_sides-clause-taken
returns-then-has_right_sides-clause-taken g c =
    let source = g.R.RowSource in
    let buffer : List ℕ = c.args.buffer.now.items in
    let rows : List (ℕ × RowContents) = rows_of_equation c.args.eq (source.rows c.args.rows.now) in
    let none : flat_map (lines_in c.args.section c.args.sets.now) rows ≡ [] =
    no-lines c.args.section c.args.sets.now rows (sym c.has_right_sides.ensures ∙ c.if-has_right_sides.true) (c.requires.sides c.if-not-may_have.true) in (
      leaves-all (buffer ++ flat_map (lines_in c.args.section c.args.sets.now) rows) buffer (output (g.K.Sink.written c.args.out.now) (g.K.Sink.accepted c.args.out.now))
          (ap (λ (text : List ℕ). buffer ++ text) none ∙ append-nil buffer),
      omega arith,
    )
