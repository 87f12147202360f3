use Rattle.mps_writer.proofs.Common.{◌≤◌, ◌++◌, ◌∙◌, ℕ, List, ap, codes, sym, subst, arith, AllByRecursion, flat_map, Var, RowContents, output, HasEquation, bounds, column_lines, line, numbered, rhs_line, row_lines, sections_text, Fails, LeavesOf}
use Rattle.mps_writer.proofs.SectionLaws.{named-equations, sections-are}
use Rattle.mps_writer.proofs.SideLaws.{sides-none}
use Rattle.mps_writer.proofs.TakenLaws.{leaves-all, then-fails, then-last, then-more}
use Rattle.mps_writer.proofs.sending.send_sections.Goals as goal

pub returns-in-Err-clause-taken : goal.returns-in-Err-clause-taken
returns-in-Err-clause-taken g c =
    let source = g.R.RowSource in
    let sink = g.K.Sink in
    let sets = c.args.sets.now in
    let vars : List Var = c.args.vars.now in
    let rows : List RowContents = source.rows c.args.rows.now in
    let end : List ℕ = line (codes "ENDATA") in
    let from_bounds : List ℕ = bounds (numbered vars) ++ end in
    let right_sides : List ℕ = flat_map rhs_line (numbered rows) in
    let from_right_sides : List ℕ = right_sides ++ from_bounds in
    let from_rhs : List ℕ = line (codes "RHS") ++ from_right_sides in
    let columns : List ℕ = flat_map (column_lines sets rows) (numbered vars) in
    let from_columns : List ℕ = columns ++ from_rhs in
    let from_head : List ℕ = line (codes "COLUMNS") ++ from_columns in
    let names : List ℕ = flat_map (row_lines sets) (numbered rows) in
    let buffer : List ℕ = c.args.buffer.now.items in
    let whole : List ℕ = buffer ++ sections_text sets rows vars in
    let b = output (sink.written c.args.out.now) (sink.accepted c.args.out.now) in
    let so_far0 : LeavesOf whole b b (buffer ++ (names ++ from_head)) = leaves-all whole (buffer ++ (names ++ from_head)) b (ap (λ (text : List ℕ). buffer ++ text) (sections-are sets rows vars)) in
    let m = sink.faults c.args.out.now in
    then-fails whole buffer names from_head c.in-Err.fail b b (output (sink.written c.send_section.new.out) (sink.accepted c.send_section.new.out)) m m (sink.faults c.send_section.new.out) so_far0 (omega arith) c.in-Err.ensures.taken

pub returns-in-Err-send_piece-clause-taken : goal.returns-in-Err-send_piece-clause-taken
returns-in-Err-send_piece-clause-taken g c =
    let source = g.R.RowSource in
    let sink = g.K.Sink in
    let sets = c.args.sets.now in
    let vars : List Var = c.args.vars.now in
    let rows : List RowContents = source.rows c.args.rows.now in
    let end : List ℕ = line (codes "ENDATA") in
    let from_bounds : List ℕ = bounds (numbered vars) ++ end in
    let right_sides : List ℕ = flat_map rhs_line (numbered rows) in
    let from_right_sides : List ℕ = right_sides ++ from_bounds in
    let from_rhs : List ℕ = line (codes "RHS") ++ from_right_sides in
    let columns : List ℕ = flat_map (column_lines sets rows) (numbered vars) in
    let from_columns : List ℕ = columns ++ from_rhs in
    let from_head : List ℕ = line (codes "COLUMNS") ++ from_columns in
    let names : List ℕ = flat_map (row_lines sets) (numbered rows) in
    let buffer : List ℕ = c.args.buffer.now.items in
    let whole : List ℕ = buffer ++ sections_text sets rows vars in
    let b = output (sink.written c.args.out.now) (sink.accepted c.args.out.now) in
    let so_far0 : LeavesOf whole b b (buffer ++ (names ++ from_head)) = leaves-all whole (buffer ++ (names ++ from_head)) b (ap (λ (text : List ℕ). buffer ++ text) (sections-are sets rows vars)) in
    let m = sink.faults c.args.out.now in
    let so_far1 : LeavesOf whole b (output (sink.written c.send_section.new.out) (sink.accepted c.send_section.new.out)) (c.send_section.new.buffer.items ++ from_head) = then-more whole buffer names from_head c.send_section.new.buffer.items b b (output (sink.written c.send_section.new.out) (sink.accepted c.send_section.new.out)) so_far0 c.in-Ok.ensures.taken.0 in
    let low1 : m ≤ (sink.faults c.send_section.new.out) = c.in-Ok.ensures.taken.1 in
    then-fails whole c.send_section.new.buffer.items (line (codes "COLUMNS")) from_columns c.in-Err-send_piece.fail b (output (sink.written c.send_section.new.out) (sink.accepted c.send_section.new.out)) (output (sink.written c.send_piece.new.out) (sink.accepted c.send_piece.new.out)) m (sink.faults c.send_section.new.out) (sink.faults c.send_piece.new.out) so_far1 low1 c.in-Err-send_piece.ensures

pub send_columns-requires-clause-equations : goal.send_columns-requires-clause-equations
send_columns-requires-clause-equations g c =
    subst (λ (rs : List RowContents). AllByRecursion HasEquation rs) (sym c.in-Ok.ensures.rows) (named-equations c.args.sets.now (g.R.RowSource.rows c.args.rows.now) c.requires.rows)

pub returns-in-Err-send_columns-clause-taken : goal.returns-in-Err-send_columns-clause-taken
returns-in-Err-send_columns-clause-taken g c =
    let source = g.R.RowSource in
    let sink = g.K.Sink in
    let sets = c.args.sets.now in
    let vars : List Var = c.args.vars.now in
    let rows : List RowContents = source.rows c.args.rows.now in
    let end : List ℕ = line (codes "ENDATA") in
    let from_bounds : List ℕ = bounds (numbered vars) ++ end in
    let right_sides : List ℕ = flat_map rhs_line (numbered rows) in
    let from_right_sides : List ℕ = right_sides ++ from_bounds in
    let from_rhs : List ℕ = line (codes "RHS") ++ from_right_sides in
    let columns : List ℕ = flat_map (column_lines sets rows) (numbered vars) in
    let from_columns : List ℕ = columns ++ from_rhs in
    let from_head : List ℕ = line (codes "COLUMNS") ++ from_columns in
    let names : List ℕ = flat_map (row_lines sets) (numbered rows) in
    let buffer : List ℕ = c.args.buffer.now.items in
    let whole : List ℕ = buffer ++ sections_text sets rows vars in
    let b = output (sink.written c.args.out.now) (sink.accepted c.args.out.now) in
    let so_far0 : LeavesOf whole b b (buffer ++ (names ++ from_head)) = leaves-all whole (buffer ++ (names ++ from_head)) b (ap (λ (text : List ℕ). buffer ++ text) (sections-are sets rows vars)) in
    let m = sink.faults c.args.out.now in
    let so_far1 : LeavesOf whole b (output (sink.written c.send_section.new.out) (sink.accepted c.send_section.new.out)) (c.send_section.new.buffer.items ++ from_head) = then-more whole buffer names from_head c.send_section.new.buffer.items b b (output (sink.written c.send_section.new.out) (sink.accepted c.send_section.new.out)) so_far0 c.in-Ok.ensures.taken.0 in
    let low1 : m ≤ (sink.faults c.send_section.new.out) = c.in-Ok.ensures.taken.1 in
    let so_far2 : LeavesOf whole b (output (sink.written c.send_piece.new.out) (sink.accepted c.send_piece.new.out)) (c.send_piece.new.buffer.items ++ from_columns) = then-more whole c.send_section.new.buffer.items (line (codes "COLUMNS")) from_columns c.send_piece.new.buffer.items b (output (sink.written c.send_section.new.out) (sink.accepted c.send_section.new.out)) (output (sink.written c.send_piece.new.out) (sink.accepted c.send_piece.new.out)) so_far1 c.in-Ok-send_piece.ensures.0 in
    let low2 : m ≤ (sink.faults c.send_piece.new.out) = omega (arith, low1, c.in-Ok-send_piece.ensures.1) in
    then-fails whole c.send_piece.new.buffer.items columns from_rhs c.in-Err-send_columns.fail b (output (sink.written c.send_piece.new.out) (sink.accepted c.send_piece.new.out)) (output (sink.written c.send_columns.new.out) (sink.accepted c.send_columns.new.out)) m (sink.faults c.send_piece.new.out) (sink.faults c.send_columns.new.out) so_far2 low2 (subst (λ (rs : List RowContents). Fails (c.send_piece.new.buffer.items ++ flat_map (column_lines sets rs) (numbered vars)) c.in-Err-send_columns.fail (output (sink.written c.send_piece.new.out) (sink.accepted c.send_piece.new.out)) (output (sink.written c.send_columns.new.out) (sink.accepted c.send_columns.new.out)) (sink.faults c.send_piece.new.out) (sink.faults c.send_columns.new.out)) c.in-Ok.ensures.rows c.in-Err-send_columns.ensures.taken)

pub returns-in-Err-send_piece-2-clause-taken : goal.returns-in-Err-send_piece-2-clause-taken
returns-in-Err-send_piece-2-clause-taken g c =
    let source = g.R.RowSource in
    let sink = g.K.Sink in
    let sets = c.args.sets.now in
    let vars : List Var = c.args.vars.now in
    let rows : List RowContents = source.rows c.args.rows.now in
    let end : List ℕ = line (codes "ENDATA") in
    let from_bounds : List ℕ = bounds (numbered vars) ++ end in
    let right_sides : List ℕ = flat_map rhs_line (numbered rows) in
    let from_right_sides : List ℕ = right_sides ++ from_bounds in
    let from_rhs : List ℕ = line (codes "RHS") ++ from_right_sides in
    let columns : List ℕ = flat_map (column_lines sets rows) (numbered vars) in
    let from_columns : List ℕ = columns ++ from_rhs in
    let from_head : List ℕ = line (codes "COLUMNS") ++ from_columns in
    let names : List ℕ = flat_map (row_lines sets) (numbered rows) in
    let buffer : List ℕ = c.args.buffer.now.items in
    let whole : List ℕ = buffer ++ sections_text sets rows vars in
    let b = output (sink.written c.args.out.now) (sink.accepted c.args.out.now) in
    let so_far0 : LeavesOf whole b b (buffer ++ (names ++ from_head)) = leaves-all whole (buffer ++ (names ++ from_head)) b (ap (λ (text : List ℕ). buffer ++ text) (sections-are sets rows vars)) in
    let m = sink.faults c.args.out.now in
    let so_far1 : LeavesOf whole b (output (sink.written c.send_section.new.out) (sink.accepted c.send_section.new.out)) (c.send_section.new.buffer.items ++ from_head) = then-more whole buffer names from_head c.send_section.new.buffer.items b b (output (sink.written c.send_section.new.out) (sink.accepted c.send_section.new.out)) so_far0 c.in-Ok.ensures.taken.0 in
    let low1 : m ≤ (sink.faults c.send_section.new.out) = c.in-Ok.ensures.taken.1 in
    let so_far2 : LeavesOf whole b (output (sink.written c.send_piece.new.out) (sink.accepted c.send_piece.new.out)) (c.send_piece.new.buffer.items ++ from_columns) = then-more whole c.send_section.new.buffer.items (line (codes "COLUMNS")) from_columns c.send_piece.new.buffer.items b (output (sink.written c.send_section.new.out) (sink.accepted c.send_section.new.out)) (output (sink.written c.send_piece.new.out) (sink.accepted c.send_piece.new.out)) so_far1 c.in-Ok-send_piece.ensures.0 in
    let low2 : m ≤ (sink.faults c.send_piece.new.out) = omega (arith, low1, c.in-Ok-send_piece.ensures.1) in
    let so_far3 : LeavesOf whole b (output (sink.written c.send_columns.new.out) (sink.accepted c.send_columns.new.out)) (c.send_columns.new.buffer.items ++ from_rhs) = then-more whole c.send_piece.new.buffer.items columns from_rhs c.send_columns.new.buffer.items b (output (sink.written c.send_piece.new.out) (sink.accepted c.send_piece.new.out)) (output (sink.written c.send_columns.new.out) (sink.accepted c.send_columns.new.out)) so_far2 (subst (λ (rs : List RowContents). LeavesOf (c.send_piece.new.buffer.items ++ flat_map (column_lines sets rs) (numbered vars)) (output (sink.written c.send_piece.new.out) (sink.accepted c.send_piece.new.out)) (output (sink.written c.send_columns.new.out) (sink.accepted c.send_columns.new.out)) c.send_columns.new.buffer.items) c.in-Ok.ensures.rows c.in-Ok-send_columns.ensures.taken.0) in
    let low3 : m ≤ (sink.faults c.send_columns.new.out) = omega (arith, low2, c.in-Ok-send_columns.ensures.taken.1) in
    then-fails whole c.send_columns.new.buffer.items (line (codes "RHS")) from_right_sides c.in-Err-send_piece-2.fail b (output (sink.written c.send_columns.new.out) (sink.accepted c.send_columns.new.out)) (output (sink.written c.send_piece-2.new.out) (sink.accepted c.send_piece-2.new.out)) m (sink.faults c.send_columns.new.out) (sink.faults c.send_piece-2.new.out) so_far3 low3 c.in-Err-send_piece-2.ensures

pub returns-in-Err-send_section-clause-taken : goal.returns-in-Err-send_section-clause-taken
returns-in-Err-send_section-clause-taken g c =
    let source = g.R.RowSource in
    let sink = g.K.Sink in
    let sets = c.args.sets.now in
    let vars : List Var = c.args.vars.now in
    let rows : List RowContents = source.rows c.args.rows.now in
    let end : List ℕ = line (codes "ENDATA") in
    let from_bounds : List ℕ = bounds (numbered vars) ++ end in
    let right_sides : List ℕ = flat_map rhs_line (numbered rows) in
    let from_right_sides : List ℕ = right_sides ++ from_bounds in
    let from_rhs : List ℕ = line (codes "RHS") ++ from_right_sides in
    let columns : List ℕ = flat_map (column_lines sets rows) (numbered vars) in
    let from_columns : List ℕ = columns ++ from_rhs in
    let from_head : List ℕ = line (codes "COLUMNS") ++ from_columns in
    let names : List ℕ = flat_map (row_lines sets) (numbered rows) in
    let buffer : List ℕ = c.args.buffer.now.items in
    let whole : List ℕ = buffer ++ sections_text sets rows vars in
    let b = output (sink.written c.args.out.now) (sink.accepted c.args.out.now) in
    let so_far0 : LeavesOf whole b b (buffer ++ (names ++ from_head)) = leaves-all whole (buffer ++ (names ++ from_head)) b (ap (λ (text : List ℕ). buffer ++ text) (sections-are sets rows vars)) in
    let m = sink.faults c.args.out.now in
    let so_far1 : LeavesOf whole b (output (sink.written c.send_section.new.out) (sink.accepted c.send_section.new.out)) (c.send_section.new.buffer.items ++ from_head) = then-more whole buffer names from_head c.send_section.new.buffer.items b b (output (sink.written c.send_section.new.out) (sink.accepted c.send_section.new.out)) so_far0 c.in-Ok.ensures.taken.0 in
    let low1 : m ≤ (sink.faults c.send_section.new.out) = c.in-Ok.ensures.taken.1 in
    let so_far2 : LeavesOf whole b (output (sink.written c.send_piece.new.out) (sink.accepted c.send_piece.new.out)) (c.send_piece.new.buffer.items ++ from_columns) = then-more whole c.send_section.new.buffer.items (line (codes "COLUMNS")) from_columns c.send_piece.new.buffer.items b (output (sink.written c.send_section.new.out) (sink.accepted c.send_section.new.out)) (output (sink.written c.send_piece.new.out) (sink.accepted c.send_piece.new.out)) so_far1 c.in-Ok-send_piece.ensures.0 in
    let low2 : m ≤ (sink.faults c.send_piece.new.out) = omega (arith, low1, c.in-Ok-send_piece.ensures.1) in
    let so_far3 : LeavesOf whole b (output (sink.written c.send_columns.new.out) (sink.accepted c.send_columns.new.out)) (c.send_columns.new.buffer.items ++ from_rhs) = then-more whole c.send_piece.new.buffer.items columns from_rhs c.send_columns.new.buffer.items b (output (sink.written c.send_piece.new.out) (sink.accepted c.send_piece.new.out)) (output (sink.written c.send_columns.new.out) (sink.accepted c.send_columns.new.out)) so_far2 (subst (λ (rs : List RowContents). LeavesOf (c.send_piece.new.buffer.items ++ flat_map (column_lines sets rs) (numbered vars)) (output (sink.written c.send_piece.new.out) (sink.accepted c.send_piece.new.out)) (output (sink.written c.send_columns.new.out) (sink.accepted c.send_columns.new.out)) c.send_columns.new.buffer.items) c.in-Ok.ensures.rows c.in-Ok-send_columns.ensures.taken.0) in
    let low3 : m ≤ (sink.faults c.send_columns.new.out) = omega (arith, low2, c.in-Ok-send_columns.ensures.taken.1) in
    let so_far4 : LeavesOf whole b (output (sink.written c.send_piece-2.new.out) (sink.accepted c.send_piece-2.new.out)) (c.send_piece-2.new.buffer.items ++ from_right_sides) = then-more whole c.send_columns.new.buffer.items (line (codes "RHS")) from_right_sides c.send_piece-2.new.buffer.items b (output (sink.written c.send_columns.new.out) (sink.accepted c.send_columns.new.out)) (output (sink.written c.send_piece-2.new.out) (sink.accepted c.send_piece-2.new.out)) so_far3 c.in-Ok-send_piece-2.ensures.0 in
    let low4 : m ≤ (sink.faults c.send_piece-2.new.out) = omega (arith, low3, c.in-Ok-send_piece-2.ensures.1) in
    then-fails whole c.send_piece-2.new.buffer.items right_sides from_bounds c.in-Err-send_section.fail b (output (sink.written c.send_piece-2.new.out) (sink.accepted c.send_piece-2.new.out)) (output (sink.written c.send_section-2.new.out) (sink.accepted c.send_section-2.new.out)) m (sink.faults c.send_piece-2.new.out) (sink.faults c.send_section-2.new.out) so_far4 low4 (subst (λ (rs : List RowContents). Fails (c.send_piece-2.new.buffer.items ++ flat_map rhs_line (numbered rs)) c.in-Err-send_section.fail (output (sink.written c.send_piece-2.new.out) (sink.accepted c.send_piece-2.new.out)) (output (sink.written c.send_section-2.new.out) (sink.accepted c.send_section-2.new.out)) (sink.faults c.send_piece-2.new.out) (sink.faults c.send_section-2.new.out)) (c.in-Ok-send_columns.ensures.rows ∙ c.in-Ok.ensures.rows) c.in-Err-send_section.ensures.taken)

pub returns-in-Err-send_bounds-clause-taken : goal.returns-in-Err-send_bounds-clause-taken
returns-in-Err-send_bounds-clause-taken g c =
    let source = g.R.RowSource in
    let sink = g.K.Sink in
    let sets = c.args.sets.now in
    let vars : List Var = c.args.vars.now in
    let rows : List RowContents = source.rows c.args.rows.now in
    let end : List ℕ = line (codes "ENDATA") in
    let from_bounds : List ℕ = bounds (numbered vars) ++ end in
    let right_sides : List ℕ = flat_map rhs_line (numbered rows) in
    let from_right_sides : List ℕ = right_sides ++ from_bounds in
    let from_rhs : List ℕ = line (codes "RHS") ++ from_right_sides in
    let columns : List ℕ = flat_map (column_lines sets rows) (numbered vars) in
    let from_columns : List ℕ = columns ++ from_rhs in
    let from_head : List ℕ = line (codes "COLUMNS") ++ from_columns in
    let names : List ℕ = flat_map (row_lines sets) (numbered rows) in
    let buffer : List ℕ = c.args.buffer.now.items in
    let whole : List ℕ = buffer ++ sections_text sets rows vars in
    let b = output (sink.written c.args.out.now) (sink.accepted c.args.out.now) in
    let so_far0 : LeavesOf whole b b (buffer ++ (names ++ from_head)) = leaves-all whole (buffer ++ (names ++ from_head)) b (ap (λ (text : List ℕ). buffer ++ text) (sections-are sets rows vars)) in
    let m = sink.faults c.args.out.now in
    let so_far1 : LeavesOf whole b (output (sink.written c.send_section.new.out) (sink.accepted c.send_section.new.out)) (c.send_section.new.buffer.items ++ from_head) = then-more whole buffer names from_head c.send_section.new.buffer.items b b (output (sink.written c.send_section.new.out) (sink.accepted c.send_section.new.out)) so_far0 c.in-Ok.ensures.taken.0 in
    let low1 : m ≤ (sink.faults c.send_section.new.out) = c.in-Ok.ensures.taken.1 in
    let so_far2 : LeavesOf whole b (output (sink.written c.send_piece.new.out) (sink.accepted c.send_piece.new.out)) (c.send_piece.new.buffer.items ++ from_columns) = then-more whole c.send_section.new.buffer.items (line (codes "COLUMNS")) from_columns c.send_piece.new.buffer.items b (output (sink.written c.send_section.new.out) (sink.accepted c.send_section.new.out)) (output (sink.written c.send_piece.new.out) (sink.accepted c.send_piece.new.out)) so_far1 c.in-Ok-send_piece.ensures.0 in
    let low2 : m ≤ (sink.faults c.send_piece.new.out) = omega (arith, low1, c.in-Ok-send_piece.ensures.1) in
    let so_far3 : LeavesOf whole b (output (sink.written c.send_columns.new.out) (sink.accepted c.send_columns.new.out)) (c.send_columns.new.buffer.items ++ from_rhs) = then-more whole c.send_piece.new.buffer.items columns from_rhs c.send_columns.new.buffer.items b (output (sink.written c.send_piece.new.out) (sink.accepted c.send_piece.new.out)) (output (sink.written c.send_columns.new.out) (sink.accepted c.send_columns.new.out)) so_far2 (subst (λ (rs : List RowContents). LeavesOf (c.send_piece.new.buffer.items ++ flat_map (column_lines sets rs) (numbered vars)) (output (sink.written c.send_piece.new.out) (sink.accepted c.send_piece.new.out)) (output (sink.written c.send_columns.new.out) (sink.accepted c.send_columns.new.out)) c.send_columns.new.buffer.items) c.in-Ok.ensures.rows c.in-Ok-send_columns.ensures.taken.0) in
    let low3 : m ≤ (sink.faults c.send_columns.new.out) = omega (arith, low2, c.in-Ok-send_columns.ensures.taken.1) in
    let so_far4 : LeavesOf whole b (output (sink.written c.send_piece-2.new.out) (sink.accepted c.send_piece-2.new.out)) (c.send_piece-2.new.buffer.items ++ from_right_sides) = then-more whole c.send_columns.new.buffer.items (line (codes "RHS")) from_right_sides c.send_piece-2.new.buffer.items b (output (sink.written c.send_columns.new.out) (sink.accepted c.send_columns.new.out)) (output (sink.written c.send_piece-2.new.out) (sink.accepted c.send_piece-2.new.out)) so_far3 c.in-Ok-send_piece-2.ensures.0 in
    let low4 : m ≤ (sink.faults c.send_piece-2.new.out) = omega (arith, low3, c.in-Ok-send_piece-2.ensures.1) in
    let so_far5 : LeavesOf whole b (output (sink.written c.send_section-2.new.out) (sink.accepted c.send_section-2.new.out)) (c.send_section-2.new.buffer.items ++ from_bounds) = then-more whole c.send_piece-2.new.buffer.items right_sides from_bounds c.send_section-2.new.buffer.items b (output (sink.written c.send_piece-2.new.out) (sink.accepted c.send_piece-2.new.out)) (output (sink.written c.send_section-2.new.out) (sink.accepted c.send_section-2.new.out)) so_far4 (subst (λ (rs : List RowContents). LeavesOf (c.send_piece-2.new.buffer.items ++ flat_map rhs_line (numbered rs)) (output (sink.written c.send_piece-2.new.out) (sink.accepted c.send_piece-2.new.out)) (output (sink.written c.send_section-2.new.out) (sink.accepted c.send_section-2.new.out)) c.send_section-2.new.buffer.items) (c.in-Ok-send_columns.ensures.rows ∙ c.in-Ok.ensures.rows) c.in-Ok-send_section.ensures.taken.0) in
    let low5 : m ≤ (sink.faults c.send_section-2.new.out) = omega (arith, low4, c.in-Ok-send_section.ensures.taken.1) in
    then-fails whole c.send_section-2.new.buffer.items (bounds (numbered vars)) end c.in-Err-send_bounds.fail b (output (sink.written c.send_section-2.new.out) (sink.accepted c.send_section-2.new.out)) (output (sink.written c.send_bounds.new.out) (sink.accepted c.send_bounds.new.out)) m (sink.faults c.send_section-2.new.out) (sink.faults c.send_bounds.new.out) so_far5 low5 c.in-Err-send_bounds.ensures

pub returns-clause-taken : goal.returns-clause-taken
returns-clause-taken g c =
    let source = g.R.RowSource in
    let sink = g.K.Sink in
    let sets = c.args.sets.now in
    let vars : List Var = c.args.vars.now in
    let rows : List RowContents = source.rows c.args.rows.now in
    let end : List ℕ = line (codes "ENDATA") in
    let from_bounds : List ℕ = bounds (numbered vars) ++ end in
    let right_sides : List ℕ = flat_map rhs_line (numbered rows) in
    let from_right_sides : List ℕ = right_sides ++ from_bounds in
    let from_rhs : List ℕ = line (codes "RHS") ++ from_right_sides in
    let columns : List ℕ = flat_map (column_lines sets rows) (numbered vars) in
    let from_columns : List ℕ = columns ++ from_rhs in
    let from_head : List ℕ = line (codes "COLUMNS") ++ from_columns in
    let names : List ℕ = flat_map (row_lines sets) (numbered rows) in
    let buffer : List ℕ = c.args.buffer.now.items in
    let whole : List ℕ = buffer ++ sections_text sets rows vars in
    let b = output (sink.written c.args.out.now) (sink.accepted c.args.out.now) in
    let so_far0 : LeavesOf whole b b (buffer ++ (names ++ from_head)) = leaves-all whole (buffer ++ (names ++ from_head)) b (ap (λ (text : List ℕ). buffer ++ text) (sections-are sets rows vars)) in
    let m = sink.faults c.args.out.now in
    let so_far1 : LeavesOf whole b (output (sink.written c.send_section.new.out) (sink.accepted c.send_section.new.out)) (c.send_section.new.buffer.items ++ from_head) = then-more whole buffer names from_head c.send_section.new.buffer.items b b (output (sink.written c.send_section.new.out) (sink.accepted c.send_section.new.out)) so_far0 c.in-Ok.ensures.taken.0 in
    let low1 : m ≤ (sink.faults c.send_section.new.out) = c.in-Ok.ensures.taken.1 in
    let so_far2 : LeavesOf whole b (output (sink.written c.send_piece.new.out) (sink.accepted c.send_piece.new.out)) (c.send_piece.new.buffer.items ++ from_columns) = then-more whole c.send_section.new.buffer.items (line (codes "COLUMNS")) from_columns c.send_piece.new.buffer.items b (output (sink.written c.send_section.new.out) (sink.accepted c.send_section.new.out)) (output (sink.written c.send_piece.new.out) (sink.accepted c.send_piece.new.out)) so_far1 c.in-Ok-send_piece.ensures.0 in
    let low2 : m ≤ (sink.faults c.send_piece.new.out) = omega (arith, low1, c.in-Ok-send_piece.ensures.1) in
    let so_far3 : LeavesOf whole b (output (sink.written c.send_columns.new.out) (sink.accepted c.send_columns.new.out)) (c.send_columns.new.buffer.items ++ from_rhs) = then-more whole c.send_piece.new.buffer.items columns from_rhs c.send_columns.new.buffer.items b (output (sink.written c.send_piece.new.out) (sink.accepted c.send_piece.new.out)) (output (sink.written c.send_columns.new.out) (sink.accepted c.send_columns.new.out)) so_far2 (subst (λ (rs : List RowContents). LeavesOf (c.send_piece.new.buffer.items ++ flat_map (column_lines sets rs) (numbered vars)) (output (sink.written c.send_piece.new.out) (sink.accepted c.send_piece.new.out)) (output (sink.written c.send_columns.new.out) (sink.accepted c.send_columns.new.out)) c.send_columns.new.buffer.items) c.in-Ok.ensures.rows c.in-Ok-send_columns.ensures.taken.0) in
    let low3 : m ≤ (sink.faults c.send_columns.new.out) = omega (arith, low2, c.in-Ok-send_columns.ensures.taken.1) in
    let so_far4 : LeavesOf whole b (output (sink.written c.send_piece-2.new.out) (sink.accepted c.send_piece-2.new.out)) (c.send_piece-2.new.buffer.items ++ from_right_sides) = then-more whole c.send_columns.new.buffer.items (line (codes "RHS")) from_right_sides c.send_piece-2.new.buffer.items b (output (sink.written c.send_columns.new.out) (sink.accepted c.send_columns.new.out)) (output (sink.written c.send_piece-2.new.out) (sink.accepted c.send_piece-2.new.out)) so_far3 c.in-Ok-send_piece-2.ensures.0 in
    let low4 : m ≤ (sink.faults c.send_piece-2.new.out) = omega (arith, low3, c.in-Ok-send_piece-2.ensures.1) in
    let so_far5 : LeavesOf whole b (output (sink.written c.send_section-2.new.out) (sink.accepted c.send_section-2.new.out)) (c.send_section-2.new.buffer.items ++ from_bounds) = then-more whole c.send_piece-2.new.buffer.items right_sides from_bounds c.send_section-2.new.buffer.items b (output (sink.written c.send_piece-2.new.out) (sink.accepted c.send_piece-2.new.out)) (output (sink.written c.send_section-2.new.out) (sink.accepted c.send_section-2.new.out)) so_far4 (subst (λ (rs : List RowContents). LeavesOf (c.send_piece-2.new.buffer.items ++ flat_map rhs_line (numbered rs)) (output (sink.written c.send_piece-2.new.out) (sink.accepted c.send_piece-2.new.out)) (output (sink.written c.send_section-2.new.out) (sink.accepted c.send_section-2.new.out)) c.send_section-2.new.buffer.items) (c.in-Ok-send_columns.ensures.rows ∙ c.in-Ok.ensures.rows) c.in-Ok-send_section.ensures.taken.0) in
    let low5 : m ≤ (sink.faults c.send_section-2.new.out) = omega (arith, low4, c.in-Ok-send_section.ensures.taken.1) in
    let so_far6 : LeavesOf whole b (output (sink.written c.send_bounds.new.out) (sink.accepted c.send_bounds.new.out)) (c.send_bounds.new.buffer.items ++ end) = then-more whole c.send_section-2.new.buffer.items (bounds (numbered vars)) end c.send_bounds.new.buffer.items b (output (sink.written c.send_section-2.new.out) (sink.accepted c.send_section-2.new.out)) (output (sink.written c.send_bounds.new.out) (sink.accepted c.send_bounds.new.out)) so_far5 c.in-Ok-send_bounds.ensures.0 in
    let low6 : m ≤ (sink.faults c.send_bounds.new.out) = omega (arith, low5, c.in-Ok-send_bounds.ensures.1) in
    then-last whole (c.send_bounds.new.buffer.items ++ end) c.send_piece-3.new.buffer.items c.send_piece-3.result b (output (sink.written c.send_bounds.new.out) (sink.accepted c.send_bounds.new.out)) (output (sink.written c.send_piece-3.new.out) (sink.accepted c.send_piece-3.new.out)) m (sink.faults c.send_bounds.new.out) (sink.faults c.send_piece-3.new.out) so_far6 low6 c.send_piece-3.ensures

pub send_section-requires-clause-sides : goal.send_section-requires-clause-sides
send_section-requires-clause-sides g c = sides-none (g.R.RowSource.rows c.args.rows.now)
