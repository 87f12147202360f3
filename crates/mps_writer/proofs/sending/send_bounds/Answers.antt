use Rattle.mps_writer.proofs.Common.{◌≡◌, ◌++◌, ◌∙◌, Bool, true, cond, ℕ, List, [], codes, refl, ap, sym, subst, arith, flat_map, list_any, output, bound_line, is_free_column, line, numbered, Fails, Takes}
use Rattle.mps_writer.proofs.TakenLaws.{leaves-all, then-fails, then-last, then-more}
use Rattle.mps_writer.proofs.sending.send_bounds.Goals as goal

some-bounds : (b : Bool) (text : List ℕ) → b ≡ true → text ≡ cond b text []
some-bounds b text is = sym (ap (λ (test : Bool). cond test text []) is)

pub returns-in-Ok : goal.returns-in-Ok
returns-in-Ok g c =
    let columns = numbered c.args.vars.now in
    let lines : List ℕ = flat_map bound_line columns in
    let head : List ℕ = line (codes "BOUNDS") in
    let buffer : List ℕ = c.args.buffer.now.items in
    let whole : List ℕ = buffer ++ (head ++ lines) in
    let b = output (g.K.Sink.written c.args.out.now) (g.K.Sink.accepted c.args.out.now) in
    let some : list_any is_free_column columns ≡ true = sym c.any_free.ensures ∙ c.if-not-any_free.false in
    subst (λ (text : List ℕ). Takes (buffer ++ text) c.send_free_columns.result b (output (g.K.Sink.written c.send_free_columns.new.out) (g.K.Sink.accepted c.send_free_columns.new.out)) (g.K.Sink.faults c.args.out.now) (g.K.Sink.faults c.send_free_columns.new.out) c.send_free_columns.new.buffer.items)
    (some-bounds (list_any is_free_column columns) (head ++ lines) some)
    (then-last whole (c.send_piece.new.buffer.items ++ lines) c.send_free_columns.new.buffer.items c.send_free_columns.result b (output (g.K.Sink.written c.send_piece.new.out) (g.K.Sink.accepted c.send_piece.new.out)) (output (g.K.Sink.written c.send_free_columns.new.out) (g.K.Sink.accepted c.send_free_columns.new.out))
    (g.K.Sink.faults c.args.out.now) (g.K.Sink.faults c.send_piece.new.out) (g.K.Sink.faults c.send_free_columns.new.out)
    (then-more whole buffer head lines c.send_piece.new.buffer.items b b (output (g.K.Sink.written c.send_piece.new.out) (g.K.Sink.accepted c.send_piece.new.out)) (leaves-all whole whole b refl) c.in-Ok.ensures.0) c.in-Ok.ensures.1 c.send_free_columns.ensures)

pub returns-in-Err : goal.returns-in-Err
returns-in-Err g c =
    let columns = numbered c.args.vars.now in
    let lines : List ℕ = flat_map bound_line columns in
    let head : List ℕ = line (codes "BOUNDS") in
    let buffer : List ℕ = c.args.buffer.now.items in
    let whole : List ℕ = buffer ++ (head ++ lines) in
    let b = output (g.K.Sink.written c.args.out.now) (g.K.Sink.accepted c.args.out.now) in
    let some : list_any is_free_column columns ≡ true = sym c.any_free.ensures ∙ c.if-not-any_free.false in
    subst (λ (text : List ℕ). Fails (buffer ++ text) c.in-Err.fail b (output (g.K.Sink.written c.send_piece.new.out) (g.K.Sink.accepted c.send_piece.new.out)) (g.K.Sink.faults c.args.out.now) (g.K.Sink.faults c.send_piece.new.out))
    (some-bounds (list_any is_free_column columns) (head ++ lines) some)
    (then-fails whole buffer head lines c.in-Err.fail b b (output (g.K.Sink.written c.send_piece.new.out) (g.K.Sink.accepted c.send_piece.new.out)) (g.K.Sink.faults c.args.out.now) (g.K.Sink.faults c.args.out.now) (g.K.Sink.faults c.send_piece.new.out)
    (leaves-all whole whole b refl) (omega arith) c.in-Err.ensures)
