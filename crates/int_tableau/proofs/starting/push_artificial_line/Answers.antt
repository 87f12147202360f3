-- The line of w has one entry.
use Rattle.int_tableau.proofs.Common.{◌≡◌, ◌+◌, ◌++◌, ℕ, ℤ, pos, negsuc, true, List, [], ◌∷◌, length, sym, ap, ap₂, ◌∙◌, if◌then◌else◌, Var, artificial_line, width_of, Line, line_seen, x0_column}
use Rattle.int_tableau.proofs.StartLaws.{artificial_line-seen}
use Rattle.int_tableau.proofs.starting.push_artificial_line.Goals as goal

pub returns-in_ok-push : goal.returns-in_ok-push
returns-in_ok-push c = record {
  pushed = λ p variables rows.
      let layout = c.args.layout.now in
      let there : layout.artificial ≡ true = c.if-layout.true in
      let width : layout.width ≡ width_of p.columns = layout.width_is ∙ ap (λ (ws : List Var). width_of ws) (sym variables) in
      let columns : c.columns.result ≡ width_of p.columns + length p.rows + 1 =
      c.columns.ensures ∙ ap (λ t. layout.width + layout.rows + (if t then 1 else 0)) there ∙ ap₂ (λ w n. w + n + 1) width (sym rows) in
      let entries : c.push_x0.new.entries.items ≡ (width_of p.columns + length p.rows, negsuc 0) ∷ [] =
      c.in_ok-push_x0.ensures.pushed
      ∙ ap (λ (es : List (ℕ × ℤ)). es ++ x0_column layout.artificial (layout.width + layout.rows)) c.in_ok-entries.ensures.items
      ∙ ap (λ t. x0_column t (layout.width + layout.rows)) there
      ∙ ap₂ (λ w n. (w + n, negsuc 0) ∷ []) width (sym rows) in
      let line : c.in_ok-new.field-0 ≡ artificial_line p =
      c.in_ok-new.ensures ∙ ap₂ {C = Line} (λ n (es : List (ℕ × ℤ)). line_seen n es (pos 0) (pos 1)) columns (c.deref.ensures.value ∙ entries) ∙ artificial_line-seen p in
      c.in_ok-push.ensures.items
      ∙ ap (λ (l : Line). c.args.lines.now.items ++ l ∷ []) line
      ∙ ap (λ t. c.args.lines.now.items ++ (if t then (artificial_line p ∷ []) else [])) (sym there);
}
