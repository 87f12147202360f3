use Rattle.mps_writer.proofs.Common.{◌≡◌, ◌≤◌, ◌<◌, ◌+◌, ◌∙◌, ◌∷◌, ◌++◌, ℕ, List, true, drop, get_or, length, refl, ap, sym, subst, arith, enumerate_from, flat_map, at_drop_all, drop_more, Var, ascends, var_cmp, RowContents, output, Entry, following, lines_of, Serves, column_head, column_lines, numbered}
use Rattle.mps_writer.proofs.ColumnTurns.{ascends-drop}
use Rattle.mps_writer.proofs.GatheredLaws.{column-own, none-serves, passed-serves}
use Rattle.mps_writer.proofs.TakenLaws.{fails-now, item-end, item-fails, item-taken, leaves-all}
use Rattle.mps_writer.proofs.sent_columns.send_columns.Goals as goal

-- what a list of variables gives past its end
none : Var
none = record { kind = 0; index = record { region = 0; other = 0; slice = 0; tech = 0; fuel = 0; emission = 0; mode = 0; year = 0 } }

pub loop-place-init : goal.loop-place-init
loop-place-init g c =
    let rows : List RowContents = g.R.RowSource.rows c.args.rows.now in
    let whole : List ℕ = c.args.buffer.now.items ++ flat_map (column_lines c.args.sets.now rows) (numbered c.args.vars.now) in
    record {
      rows = refl;
      serves = none-serves c.args.sets.now rows _ c.args.vars.now refl c.new.ensures.items refl c.requires.vars;
      taken = leaves-all whole whole (output (g.K.Sink.written c.args.out.now) (g.K.Sink.accepted c.args.out.now)) refl;
      faults = omega arith;
    }

pub returns-in-Err-clause-taken : goal.returns-in-Err-clause-taken
returns-in-Err-clause-taken g c =
    let f : ℕ × Var → List ℕ = column_lines c.args.sets.now (g.R.RowSource.rows c.args.rows.now) in
    fails-now (c.args.buffer.now.items ++ flat_map f (numbered c.args.vars.now)) (c.loop-place.buffer.items ++ flat_map f (enumerate_from (c.loop-place.place + 1) (drop c.loop-place.place c.args.vars.now)))
    (output (g.K.Sink.written c.args.out.now) (g.K.Sink.accepted c.args.out.now)) (output (g.K.Sink.written c.loop-place.out) (g.K.Sink.accepted c.loop-place.out)) (g.K.Sink.faults c.args.out.now) (g.K.Sink.faults c.loop-place.out) c.loop-place.invariant.taken c.loop-place.invariant.faults

pub returns-in-Err-send_column-clause-taken : goal.returns-in-Err-send_column-clause-taken
unfolding none
returns-in-Err-send_column-clause-taken g c =
    let source = g.R.RowSource in
    let rows : List RowContents = source.rows c.args.rows.now in
    let vars : List Var = c.args.vars.now in
    let k : ℕ = c.loop-place.place in
    let less : k < length vars = omega arith in
    let v : Var = get_or vars k none in
    let later : List Var = drop (k + 1) vars in
    let f : ℕ × Var → List ℕ = column_lines c.args.sets.now rows in
    let gathered = c.gather.new.gathered in
    let part : List ℕ = column_head c.args.sets.now (k + 1, v) ++ lines_of (k + 1) v (drop gathered.passed c.deref.result.now) in
    let here : Serves rows gathered (drop k vars) =
    subst (λ (rs : List RowContents). Serves rs gathered (drop k vars)) c.loop-place.invariant.rows
    (c.in-Ok.ensures.serves (drop k vars) (subst (λ (rs : List RowContents). Serves rs c.loop-place.gathered (drop k vars)) (sym c.loop-place.invariant.rows) c.loop-place.invariant.serves)) in
    let serves : Serves rows gathered (v ∷ later) = subst (λ (ws : List Var). Serves rows gathered ws) (drop_more vars k none less) here in
    let own : part ≡ f (k + 1, v) =
    ap (λ (es : List Entry). column_head c.args.sets.now (k + 1, v) ++ lines_of (k + 1) v (drop gathered.passed es)) c.deref.ensures.value
    ∙ column-own c.args.sets.now rows gathered (k + 1) v later (sym c.in-Ok.ensures.kind) serves in
    item-fails f (k + 1, v) (enumerate_from (k + 1 + 1) later) (enumerate_from (k + 1) (drop k vars)) (c.args.buffer.now.items ++ flat_map f (numbered vars)) c.loop-place.buffer.items part c.in-Err-send_column.fail
    (output (g.K.Sink.written c.args.out.now) (g.K.Sink.accepted c.args.out.now)) (output (g.K.Sink.written c.loop-place.out) (g.K.Sink.accepted c.loop-place.out)) (output (g.K.Sink.written c.send_column.new.out) (g.K.Sink.accepted c.send_column.new.out)) (g.K.Sink.faults c.args.out.now) (g.K.Sink.faults c.loop-place.out) (g.K.Sink.faults c.send_column.new.out)
    (ap (enumerate_from (k + 1)) (drop_more vars k none less)) own c.loop-place.invariant.taken c.loop-place.invariant.faults c.in-Err-send_column.ensures.taken

pub loop-place-preserved : goal.loop-place-preserved
unfolding none
loop-place-preserved g c =
    let source = g.R.RowSource in
    let rows : List RowContents = source.rows c.args.rows.now in
    let vars : List Var = c.args.vars.now in
    let k : ℕ = c.loop-place.place in
    let less : k < length vars = omega arith in
    let v : Var = get_or vars k none in
    let later : List Var = drop (k + 1) vars in
    let f : ℕ × Var → List ℕ = column_lines c.args.sets.now rows in
    let gathered = c.gather.new.gathered in
    let part : List ℕ = column_head c.args.sets.now (k + 1, v) ++ lines_of (k + 1) v (drop gathered.passed c.deref.result.now) in
    let here : Serves rows gathered (drop k vars) =
    subst (λ (rs : List RowContents). Serves rs gathered (drop k vars)) c.loop-place.invariant.rows
    (c.in-Ok.ensures.serves (drop k vars) (subst (λ (rs : List RowContents). Serves rs c.loop-place.gathered (drop k vars)) (sym c.loop-place.invariant.rows) c.loop-place.invariant.serves)) in
    let serves : Serves rows gathered (v ∷ later) = subst (λ (ws : List Var). Serves rows gathered ws) (drop_more vars k none less) here in
    let own : part ≡ f (k + 1, v) =
    ap (λ (es : List Entry). column_head c.args.sets.now (k + 1, v) ++ lines_of (k + 1) v (drop gathered.passed es)) c.deref.ensures.value
    ∙ column-own c.args.sets.now rows gathered (k + 1) v later (sym c.in-Ok.ensures.kind) serves in
    let ascending : ascends var_cmp (v ∷ later) ≡ true = subst (λ (ws : List Var). ascends var_cmp ws ≡ true) (drop_more vars k none less) (ascends-drop k vars c.requires.ascending) in
    let passed : drop c.in-Ok-send_column.passed gathered.entries.items ≡ following v (drop gathered.passed gathered.entries.items) =
    subst (λ (es : List Entry). drop c.in-Ok-send_column.passed es ≡ following v (drop gathered.passed es)) c.deref.ensures.value c.in-Ok-send_column.ensures.rest in
    let within : c.in-Ok-send_column.passed ≤ length gathered.entries.items = subst (λ (es : List Entry). c.in-Ok-send_column.passed ≤ length es) c.deref.ensures.value c.in-Ok-send_column.ensures.within in
    record {
      rows = c.in-Ok.ensures.rows ∙ c.loop-place.invariant.rows;
      serves = passed-serves rows gathered _ v later ascending refl refl within passed serves;
      taken = item-taken f (k + 1, v) (enumerate_from (k + 1 + 1) later) (enumerate_from (k + 1) (drop k vars)) (c.args.buffer.now.items ++ flat_map f (numbered vars)) c.loop-place.buffer.items part c.send_column.new.buffer.items
          (output (g.K.Sink.written c.args.out.now) (g.K.Sink.accepted c.args.out.now)) (output (g.K.Sink.written c.loop-place.out) (g.K.Sink.accepted c.loop-place.out)) (output (g.K.Sink.written c.send_column.new.out) (g.K.Sink.accepted c.send_column.new.out))
          (ap (enumerate_from (k + 1)) (drop_more vars k none less)) own c.loop-place.invariant.taken c.in-Ok-send_column.ensures.taken.0;
      faults = omega (arith, c.loop-place.invariant.faults, c.in-Ok-send_column.ensures.taken.1);
    }

pub returns-clause-taken : goal.returns-clause-taken
returns-clause-taken g c =
    let f : ℕ × Var → List ℕ = column_lines c.args.sets.now (g.R.RowSource.rows c.args.rows.now) in
    let k : ℕ = c.loop-place.place in (
      item-end f (enumerate_from (k + 1) (drop k c.args.vars.now)) (c.args.buffer.now.items ++ flat_map f (numbered c.args.vars.now)) c.loop-place.buffer.items (output (g.K.Sink.written c.args.out.now) (g.K.Sink.accepted c.args.out.now)) (output (g.K.Sink.written c.loop-place.out) (g.K.Sink.accepted c.loop-place.out))
          (at_drop_all (enumerate_from (k + 1)) c.args.vars.now k (omega arith)) c.loop-place.invariant.taken,
      c.loop-place.invariant.faults,
    )
