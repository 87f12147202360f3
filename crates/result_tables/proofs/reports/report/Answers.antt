-- The first lines, twelve tables, the table of prices and the last line.
use Rattle.result_tables.proofs.Common.{◌≡◌, List, ℕ, [], ◌∷◌, ◌++◌, map, append_assoc, sym, ap, ◌∙◌, flat_map, flat_map-append, append-nil, value_of, end_line, summary_text, Table, kind_table, price_table, table_kinds, table_text}
use Rattle.result_tables.proofs.reports.report.Goals as goal

joined : (start : List ℕ) (tables : List Table) (last : Table) (end : List ℕ) → ((start ++ flat_map table_text tables) ++ table_text last) ++ end ≡ (start ++ flat_map table_text (tables ++ last ∷ [])) ++ end
joined start tables last end =
    let one : table_text last ≡ flat_map table_text (last ∷ []) = sym (append-nil (table_text last)) in
    let both = ap (λ t. flat_map table_text tables ++ t) one ∙ sym (flat_map-append table_text tables (last ∷ [])) in
    ap (λ t. t ++ end) (append_assoc start (flat_map table_text tables) (table_text last) ∙ ap (λ t. start ++ t) both)

pub returns-clause-text : goal.returns-clause-text
returns-clause-text c =
    let summary : List ℕ = summary_text (value_of c.args.cost) (value_of c.args.bound) c.args.pivots c.args.rounded c.args.places c.args.attempt in
    let tables : List Table = map (kind_table c.args.sets.now c.args.vars.now c.args.plan.now) table_kinds in
    let prices : Table = price_table c.args.sets.now c.args.rows.now c.args.multipliers.now in
    let first : c.push_summary.new.out.items ≡ summary = c.in_ok-push_summary.ensures ∙ ap (λ (t : List ℕ). t ++ summary) c.new-out.ensures.items in
    let second : c.push_kind_tables.new.out.items ≡ c.push_summary.new.out.items ++ flat_map table_text tables = c.in_ok-push_kind_tables.ensures in
    let third : c.push_price_table.new.out.items ≡ c.push_kind_tables.new.out.items ++ table_text prices = c.in_ok-push_price_table.ensures.text in
    let fourth : c.push_end.new.out.items ≡ c.push_price_table.new.out.items ++ end_line = c.in_ok-push_end.ensures in
    fourth
    ∙ ap (λ (t : List ℕ). t ++ end_line) (third ∙ ap (λ (t : List ℕ). t ++ table_text prices) (second ∙ ap (λ (t : List ℕ). t ++ flat_map table_text tables) first))
    ∙ joined summary tables prices end_line
