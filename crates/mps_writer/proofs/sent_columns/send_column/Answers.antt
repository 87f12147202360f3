use Rattle.mps_writer.proofs.Common.{◌≡◌, ◌≤◌, ◌∙◌, ◌++◌, ◌+◌, ◌<◌, List, [], ℕ, drop, get_or, length, ap, sym, subst, refl, arith, append_assoc, pos, append-nil, at_drop_all, output, lines_of, column_head, entry_line, LeavesOf, Entry}
use Rattle.mps_writer.proofs.ColumnText.{lines-earlier, lines-own, lines-later}
use Rattle.mps_writer.proofs.TakenLaws.{fails-more, leaves-all, leaves-more, leaves-same, then-fails, then-more}
use Rattle.mps_writer.proofs.sent_columns.send_column.Goals as goal
use Rattle.mps_writer.proofs.sent_columns.send_column.Goals.{in-Less, in-Equal+in-Ok-send_entry}

-- what a list of entries gives past its end
none : Entry
none = record { variable = record { kind = 0; index = record { region = 0; other = 0; slice = 0; tech = 0; fuel = 0; emission = 0; mode = 0; year = 0 } }; row = 0; number = pos 0 }

pub returns-in-Err-clause-taken : goal.returns-in-Err-clause-taken
returns-in-Err-clause-taken g c =
    let head : List ℕ = column_head c.args.sets.now (c.args.column, c.args.var) in
    let lines : List ℕ = lines_of c.args.column c.args.var (drop c.args.from c.args.entries.now) in
    let whole : List ℕ = c.args.buffer.now.items ++ (head ++ lines) in
    let b = output (g.K.Sink.written c.args.out.now) (g.K.Sink.accepted c.args.out.now) in
    then-fails whole c.args.buffer.now.items head lines c.in-Err.fail b b (output (g.K.Sink.written c.send_head.new.out) (g.K.Sink.accepted c.send_head.new.out)) (g.K.Sink.faults c.args.out.now) (g.K.Sink.faults c.args.out.now) (g.K.Sink.faults c.send_head.new.out)
    (leaves-all whole whole b refl) (omega arith) c.in-Err.ensures

pub loop-i-init : goal.loop-i-init
loop-i-init g c =
    let head : List ℕ = column_head c.args.sets.now (c.args.column, c.args.var) in
    let lines : List ℕ = lines_of c.args.column c.args.var (drop c.args.from c.args.entries.now) in
    let whole : List ℕ = c.args.buffer.now.items ++ (head ++ lines) in
    let b = output (g.K.Sink.written c.args.out.now) (g.K.Sink.accepted c.args.out.now) in
    record {
      taken = then-more whole c.args.buffer.now.items head lines c.send_head.new.buffer.items b b (output (g.K.Sink.written c.send_head.new.out) (g.K.Sink.accepted c.send_head.new.out)) (leaves-all whole whole b refl) c.in-Ok.ensures.0;
      rest = refl;
      faults = c.in-Ok.ensures.1;
    }

pub returns-in-Err-send_entry-clause-taken : goal.returns-in-Err-send_entry-clause-taken
unfolding none
returns-in-Err-send_entry-clause-taken g c =
    let entries = c.args.entries.now in
    let i = c.loop-i.i in
    let here = get_or entries i none in
    let less : i < length entries = omega arith in
    let both = lines-own c.args.column c.args.var entries i here none less refl (sym c.in-Equal.ensures) in
    let whole : List ℕ = c.args.buffer.now.items ++ (column_head c.args.sets.now (c.args.column, c.args.var) ++ lines_of c.args.column c.args.var (drop c.args.from entries)) in
    let part : List ℕ = entry_line c.args.column here.row here.number in
    let rest : List ℕ = lines_of c.args.column c.args.var (drop (i + 1) entries) in
    let now : List ℕ = lines_of c.args.column c.args.var (drop i entries) in
    fails-more whole (c.loop-i.buffer.items ++ part) rest (c.loop-i.buffer.items ++ now) c.in-Err-send_entry.fail (output (g.K.Sink.written c.args.out.now) (g.K.Sink.accepted c.args.out.now)) (output (g.K.Sink.written c.loop-i.out) (g.K.Sink.accepted c.loop-i.out)) (output (g.K.Sink.written c.send_entry.new.out) (g.K.Sink.accepted c.send_entry.new.out))
    (g.K.Sink.faults c.args.out.now) (g.K.Sink.faults c.loop-i.out) (g.K.Sink.faults c.send_entry.new.out) c.loop-i.invariant.taken c.loop-i.invariant.faults
    (ap (λ (all : List ℕ). c.loop-i.buffer.items ++ all) both.0 ∙ sym (append_assoc c.loop-i.buffer.items part rest)) c.in-Err-send_entry.ensures

pub returns-in-Greater-clause-taken : goal.returns-in-Greater-clause-taken
unfolding none
returns-in-Greater-clause-taken g c =
    let entries = c.args.entries.now in
    let i = c.loop-i.i in
    let less : i < length entries = omega arith in
    let both = lines-later c.args.column c.args.var entries i (get_or entries i none) none less refl (sym c.in-Greater.ensures) in
    let whole : List ℕ = c.args.buffer.now.items ++ (column_head c.args.sets.now (c.args.column, c.args.var) ++ lines_of c.args.column c.args.var (drop c.args.from entries)) in
    let now : List ℕ = lines_of c.args.column c.args.var (drop i entries) in (
      subst (λ (left : List ℕ). LeavesOf whole (output (g.K.Sink.written c.args.out.now) (g.K.Sink.accepted c.args.out.now)) (output (g.K.Sink.written c.loop-i.out) (g.K.Sink.accepted c.loop-i.out)) left)
          (ap (λ (all : List ℕ). c.loop-i.buffer.items ++ all) both.0 ∙ append-nil c.loop-i.buffer.items) c.loop-i.invariant.taken,
      c.loop-i.invariant.faults,
    )

pub returns-in-Greater-clause-rest : goal.returns-in-Greater-clause-rest
unfolding none
returns-in-Greater-clause-rest g c =
    let entries = c.args.entries.now in
    let i = c.loop-i.i in
    let less : i < length entries = omega arith in
    let both = lines-later c.args.column c.args.var entries i (get_or entries i none) none less refl (sym c.in-Greater.ensures) in
    sym both.1 ∙ c.loop-i.invariant.rest

pub loop-i-preserved : goal.loop-i-preserved
unfolding none
loop-i-preserved g c =
    let sink = g.K.Sink in
    let entries = c.args.entries.now in
    let i = c.loop-i.i in
    let here = get_or entries i none in
    let less : i < length entries = omega arith in
    let whole : List ℕ = c.args.buffer.now.items ++ (column_head c.args.sets.now (c.args.column, c.args.var) ++ lines_of c.args.column c.args.var (drop c.args.from entries)) in
    let now : List ℕ = lines_of c.args.column c.args.var (drop i entries) in
    let rest : List ℕ = lines_of c.args.column c.args.var (drop (i + 1) entries) in
    elim c.match-compare.branch [
      | in-Less w ↦
          let both = lines-earlier c.args.column c.args.var entries i here none less refl (sym w.in-Less.ensures) in
          let buffer : c.loop-i.buffer.items ≡ c.match-compare.buffer.items = ap (λ v. v.items) (sym w.buffer-is) in
          record {
            taken = leaves-same whole (c.loop-i.buffer.items ++ now) (c.match-compare.buffer.items ++ rest) (output (sink.written c.args.out.now) (sink.accepted c.args.out.now)) (output (sink.written c.loop-i.out) (sink.accepted c.loop-i.out)) (output (sink.written c.match-compare.out) (sink.accepted c.match-compare.out)) c.loop-i.invariant.taken
                (ap (λ (lines : List ℕ). c.loop-i.buffer.items ++ lines) both.0 ∙ ap (λ (front : List ℕ). front ++ rest) buffer) (ap (λ out. output (sink.written out) (sink.accepted out)) (sym w.out-is));
            rest = sym both.1 ∙ c.loop-i.invariant.rest;
            faults = subst (λ (n : ℕ). sink.faults c.args.out.now ≤ n) (ap sink.faults (sym w.out-is)) c.loop-i.invariant.faults;
          }
      | in-Equal+in-Ok-send_entry w ↦
          let both = lines-own c.args.column c.args.var entries i here none less refl (sym w.in-Equal.ensures) in
          let part : List ℕ = entry_line c.args.column here.row here.number in
          let taken = leaves-more whole (c.loop-i.buffer.items ++ part) rest (c.loop-i.buffer.items ++ now) w.send_entry.new.buffer.items (output (sink.written c.args.out.now) (sink.accepted c.args.out.now)) (output (sink.written c.loop-i.out) (sink.accepted c.loop-i.out)) (output (sink.written w.send_entry.new.out) (sink.accepted w.send_entry.new.out)) c.loop-i.invariant.taken
          (ap (λ (all : List ℕ). c.loop-i.buffer.items ++ all) both.0 ∙ sym (append_assoc c.loop-i.buffer.items part rest)) w.in-Ok-send_entry.ensures.0 in
          let low : sink.faults c.args.out.now ≤ sink.faults w.send_entry.new.out = omega (arith, c.loop-i.invariant.faults, w.in-Ok-send_entry.ensures.1) in
          record {
            taken = leaves-same whole (w.send_entry.new.buffer.items ++ rest) (c.match-compare.buffer.items ++ rest) (output (sink.written c.args.out.now) (sink.accepted c.args.out.now)) (output (sink.written w.send_entry.new.out) (sink.accepted w.send_entry.new.out)) (output (sink.written c.match-compare.out) (sink.accepted c.match-compare.out)) taken
                (ap (λ v. v.items ++ rest) (sym w.buffer-is)) (ap (λ out. output (sink.written out) (sink.accepted out)) (sym w.out-is));
            rest = sym both.1 ∙ c.loop-i.invariant.rest;
            faults = subst (λ (n : ℕ). sink.faults c.args.out.now ≤ n) (ap sink.faults (sym w.out-is)) low;
          }
    ]

pub returns-clause-taken : goal.returns-clause-taken
returns-clause-taken g c =
    let entries = c.args.entries.now in
    let i = c.loop-i.i in
    let whole : List ℕ = c.args.buffer.now.items ++ (column_head c.args.sets.now (c.args.column, c.args.var) ++ lines_of c.args.column c.args.var (drop c.args.from entries)) in
    let none_left : drop i entries ≡ [] = at_drop_all (λ (es : List Entry). es) entries i (omega arith) in (
      subst (λ (left : List ℕ). LeavesOf whole (output (g.K.Sink.written c.args.out.now) (g.K.Sink.accepted c.args.out.now)) (output (g.K.Sink.written c.loop-i.out) (g.K.Sink.accepted c.loop-i.out)) left)
          (ap (λ (es : List Entry). c.loop-i.buffer.items ++ lines_of c.args.column c.args.var es) none_left ∙ append-nil c.loop-i.buffer.items) c.loop-i.invariant.taken,
      c.loop-i.invariant.faults,
    )
