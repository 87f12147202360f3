-- The lines, the basic columns and the number of columns are those of the first tableau.
use Rattle.int_tableau.proofs.Common.{◌≡◌, ◌<◌, ◌^◌, List, length, map, sym, ap, ◌∙◌, subst, Row, keys_of, any_negative, LinearProgram, inequality_of, program_of, Counted, IsTableau}
use Rattle.written_method.specs.Tableaus.{Tableau as Written}
use Rattle.int_tableau.proofs.StartLaws.{first_basics, first_columns, first_is, first_lines}
use Rattle.int_tableau.proofs.TableauLaws.{IsTableau-first, length-mapped}
use Rattle.int_tableau.proofs.tableau.Tableau.new.Goals as goal

pub invariant_of-result : goal.invariant_of-result
invariant_of-result c =
    let reduced = c.args.reduced.now in
    let p : LinearProgram = program_of reduced in
    let layout = c.in_ok-layout.layout in
    let vs = keys_of layout.places.items in
    let variables : vs ≡ p.columns = c.in_ok-layout.ensures.variables ∙ c.deref-2.ensures.value in
    let there : layout.artificial ≡ any_negative p.rows = c.in_ok-layout.ensures.artificial ∙ c.any_negative-artificial.ensures ∙ ap (λ (rs : List Row). any_negative (map inequality_of rs)) c.deref.ensures.value in
    let count : layout.rows ≡ length p.rows = c.in_ok-layout.ensures.rows ∙ c.len.ensures ∙ reduced.rows.ok.0 ∙ sym (length-mapped inequality_of reduced.rows.items) in
    let cost = c.in_ok-cost_line.ensures in
    let lines = first_lines p vs layout.artificial layout.rows (map inequality_of c.deref-3.result.now) c.in_ok-cost_line.field-0 c.in_ok-lines.lines.items c.push_row_lines.new.lines.items c.push.new.self.items c.push_artificial_line.new.lines.items
    variables there count (ap (λ (rs : List Row). map inequality_of rs) c.deref-3.ensures.value)
    c.in_ok-lines.ensures.items c.in_ok-push_row_lines.ensures.pushed cost c.in_ok-push.ensures.items (c.in_ok-push_artificial_line.ensures.pushed p (sym variables) (sym count)) in
    let columns = first_columns p vs layout.artificial layout.width layout.rows c.columns.result variables there count layout.width_is c.columns.ensures in
    let basics = first_basics p vs layout.width layout.rows c.in_ok-basics.basics.items variables count layout.width_is c.in_ok-basics.ensures in
    subst (λ (t : Written). IsTableau t.columns t.lines t.basics) (sym (first_is p c.push_artificial_line.new.lines.items c.in_ok-basics.basics.items c.columns.result lines basics columns)) (IsTableau-first p (any_negative p.rows) (subst (λ n. n < 2 ^ 64) columns c.columns.type_inv))

pub returns : goal.returns
returns c =
    let reduced = c.args.reduced.now in
    let p : LinearProgram = program_of reduced in
    let layout = c.in_ok-layout.layout in
    let vs = keys_of layout.places.items in
    let variables : vs ≡ p.columns = c.in_ok-layout.ensures.variables ∙ c.deref-2.ensures.value in
    let there : layout.artificial ≡ any_negative p.rows = c.in_ok-layout.ensures.artificial ∙ c.any_negative-artificial.ensures ∙ ap (λ (rs : List Row). any_negative (map inequality_of rs)) c.deref.ensures.value in
    let count : layout.rows ≡ length p.rows = c.in_ok-layout.ensures.rows ∙ c.len.ensures ∙ reduced.rows.ok.0 ∙ sym (length-mapped inequality_of reduced.rows.items) in
    let cost = c.in_ok-cost_line.ensures in
    let lines = first_lines p vs layout.artificial layout.rows (map inequality_of c.deref-3.result.now) c.in_ok-cost_line.field-0 c.in_ok-lines.lines.items c.push_row_lines.new.lines.items c.push.new.self.items c.push_artificial_line.new.lines.items
    variables there count (ap (λ (rs : List Row). map inequality_of rs) c.deref-3.ensures.value)
    c.in_ok-lines.ensures.items c.in_ok-push_row_lines.ensures.pushed cost c.in_ok-push.ensures.items (c.in_ok-push_artificial_line.ensures.pushed p (sym variables) (sym count)) in
    let columns = first_columns p vs layout.artificial layout.width layout.rows c.columns.result variables there count layout.width_is c.columns.ensures in
    let basics = first_basics p vs layout.width layout.rows c.in_ok-basics.basics.items variables count layout.width_is c.in_ok-basics.ensures in
    ap {B = Counted} (λ (t : Written). record { tableau = t; pivots = 0 }) (first_is p c.push_artificial_line.new.lines.items c.in_ok-basics.basics.items c.columns.result lines basics columns)
