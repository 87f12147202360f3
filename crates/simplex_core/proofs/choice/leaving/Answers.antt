-- One row after another.
use Rattle.simplex_core.proofs.Common.{◌≡◌, ◌<◌, ◌+◌, ℤ, pos, true, false, List, ℕ, Some, length, get_or, drop, sym, ap, ap₂, ◌∙◌, subst, arith, to_z, of_z, w128, int_lt, InRange, back_in_range, Line, entry_of, line_of, no_line, candidate_seen, chosen_seen}
use Rattle.written_method.specs.Choices as choices
use Rattle.simplex_core.proofs.ChoiceLaws.{leaving-takes, leaving-passes}
use Rattle.simplex_core.proofs.choice.leaving.Goals as goal
use Rattle.simplex_core.proofs.choice.leaving.Goals.{then-entry-gt0, else-entry-gt0}

pub loop-row-preserved : goal.loop-row-preserved
loop-row-preserved c =
    let lines : List Line = c.args.tableau.now.tableau.lines in
    let basics : List ℕ = c.args.tableau.now.tableau.basics in
    let row = c.loop-row.row in
    let column = c.args.column in
    let x0 = c.args.x0 in
    let e : ℤ = c.entry-entry.result in
    let in_basics : row < length basics = omega (arith, c.rows-row-end.ensures.count) in
    let in_lines : row < length lines = omega (arith, c.rows-row-end.ensures.count, c.rows-row-end.ensures.line_of_z) in
    let value : e ≡ entry_of (line_of c.args.tableau.now.tableau row) column = c.entry-entry.ensures.value in
    let e_fits : InRange e = subst InRange (sym value) c.entry-entry.ensures.range in
    let back : to_z w128 (of_z w128 e) ≡ e = back_in_range e e_fits in
    elim c.if-entry-gt0.branch [
      | then-entry-gt0 w ↦
          let test : int_lt (pos 0) (entry_of (get_or lines row no_line) column) ≡ true = ap (λ z. int_lt (pos 0) z) (sym (back ∙ value)) ∙ w.if-entry-gt0.true in
          let r_fits : InRange w.rhs.result = subst InRange (sym w.rhs.ensures.value) w.rhs.ensures.range in
          let right : to_z w128 (of_z w128 w.rhs.result) ≡ (get_or lines row no_line).right = back_in_range w.rhs.result r_fits ∙ w.rhs.ensures.value in
          let rank : w.rank.result ≡ choices.rank_of x0 (get_or basics row 0) = w.rank.ensures ∙ ap (choices.rank_of x0) w.basic.ensures.value in
          let made : candidate_seen w.better_of.result ≡ choices.better (chosen_seen c.loop-row.chosen) (choices.candidate_at x0 column row (get_or lines row no_line) (get_or basics row 0)) =
          w.better_of.ensures
          ∙ ap₂ {C = choices.Candidate} (λ x y. choices.better (chosen_seen c.loop-row.chosen) (record { row = row; right = x; entry = y; rank = w.rank.result })) right (back ∙ value)
          ∙ ap {B = choices.Candidate} (λ k. choices.better (chosen_seen c.loop-row.chosen) (record { row = row; right = (get_or lines row no_line).right; entry = entry_of (get_or lines row no_line) column; rank = k })) rank in
          c.loop-row.invariant
          ∙ leaving-takes x0 column row (chosen_seen c.loop-row.chosen) lines basics in_lines in_basics test
          ∙ ap (λ a. choices.leaving_from x0 column (row + 1) (Some a) (drop (row + 1) lines) (drop (row + 1) basics)) (sym made)
          ∙ ap (λ o. choices.leaving_from x0 column (row + 1) (chosen_seen o) (drop (row + 1) lines) (drop (row + 1) basics)) (sym w.chosen-is)
      | else-entry-gt0 w ↦
          let test : int_lt (pos 0) (entry_of (get_or lines row no_line) column) ≡ false = ap (λ z. int_lt (pos 0) z) (sym (back ∙ value)) ∙ w.if-entry-gt0.false in
          c.loop-row.invariant
          ∙ leaving-passes x0 column row (chosen_seen c.loop-row.chosen) lines basics in_lines in_basics test
          ∙ ap (λ o. choices.leaving_from x0 column (row + 1) (chosen_seen o) (drop (row + 1) lines) (drop (row + 1) basics)) (sym w.chosen-is)
    ]
