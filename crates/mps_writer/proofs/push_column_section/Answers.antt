use Rattle.mps_writer.proofs.Common.{◌∙◌, ◌++◌, List, ℕ, ap, map, flat_map, contents_of, column_text, numbered, Entry}
use Rattle.mps_writer.proofs.ColumnText.{columns-section}
use Rattle.mps_writer.proofs.push_column_section.Goals as goal

pub returns : goal.returns
returns c =
    let sets = c.args.sets.now in
    let columns = numbered c.args.vars.now in
    c.in_ok-push_columns.ensures
    ∙ ap (λ (es : List Entry). c.args.out.now.items ++ flat_map (column_text sets es) columns) c.deref.ensures.value
    ∙ ap (λ (text : List ℕ). c.args.out.now.items ++ text) (columns-section sets (map contents_of c.args.rows.now) c.in_ok-entries.entries.items columns c.in_ok-entries.ensures)
