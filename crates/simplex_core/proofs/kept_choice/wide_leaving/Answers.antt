-- One row after another.
use Rattle.simplex_core.proofs.Common.{◌<◌, ◌+◌, Option, Some, length, drop, sym, ap, ◌∙◌, arith, leaving_from, Tableau, rough_lines, kept_state, kept_basics, x0_in, chosen_seen, candidate_seen}
use Rattle.simplex_core.specs.declared.candidate.Candidate.{Candidate}
use Rattle.simplex_core.proofs.KeptChoiceLaws.{leaving-took, leaving-passed}
use Rattle.simplex_core.proofs.kept_choice.wide_leaving.Goals as goal
use Rattle.simplex_core.proofs.kept_choice.wide_leaving.Goals.{in-Some, in_default}

pub loop-row-preserved : goal.loop-row-preserved
loop-row-preserved c =
    let t : Tableau = c.args.tableau.now.tableau in
    let h = c.args.home.row in
    let d = x0_in t in
    let k = c.args.home.column in
    let row = c.loop-row.row in
    let within : row < length t.basics = omega (arith, c.rows-row-end.ensures.count) in
    elim c.match-branch-3.branch [
      | in-Some w ↦ record {
        choice =
            c.loop-row.invariant.choice
            ∙ leaving-took t h d k row (chosen_seen c.loop-row.chosen) (candidate_seen w.in-Some.a) c.requires.kept within (sym (ap chosen_seen w.in-Some.is) ∙ c.in_ok-a.ensures)
            ∙ ap (λ o. leaving_from (Some d) k (row + 1) (Some o) (drop (row + 1) (rough_lines (kept_state t h d 0 0))) (drop (row + 1) (kept_basics t h d))) (sym w.better_of.ensures)
            ∙ ap (λ (o : Option Candidate). leaving_from (Some d) k (row + 1) (chosen_seen o) (drop (row + 1) (rough_lines (kept_state t h d 0 0))) (drop (row + 1) (kept_basics t h d))) (sym w.chosen-is);
        sizes = c.seen-spread.ensures;
      }
      | in_default w ↦ record {
        choice =
            c.loop-row.invariant.choice
            ∙ leaving-passed t h d k row (chosen_seen c.loop-row.chosen) c.requires.kept within (sym (ap chosen_seen w.in_default.is) ∙ c.in_ok-a.ensures)
            ∙ ap (λ (o : Option Candidate). leaving_from (Some d) k (row + 1) (chosen_seen o) (drop (row + 1) (rough_lines (kept_state t h d 0 0))) (drop (row + 1) (kept_basics t h d))) (sym w.chosen-is);
        sizes = c.seen-spread.ensures;
      }
    ]
