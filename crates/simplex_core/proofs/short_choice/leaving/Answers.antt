-- One row after another.
use Rattle.simplex_core.proofs.Common.{◌<◌, ◌+◌, Option, Some, length, drop, sym, ap, ◌∙◌, arith, leaving_from, Tableau, rough_lines, kept_state, kept_basics, x0_in, short_chosen_seen, short_candidate_seen}
use Rattle.simplex_core.specs.declared.candidate.ShortCandidate.{ShortCandidate}
use Rattle.simplex_core.proofs.KeptChoiceLaws.{leaving-took, leaving-passed}
use Rattle.simplex_core.proofs.short_choice.leaving.Goals as goal
use Rattle.simplex_core.proofs.short_choice.leaving.Goals.{in-Some-candidate, in_default-candidate}

pub loop-row-preserved : goal.loop-row-preserved
loop-row-preserved c =
    let t : Tableau = c.args.tableau.now.tableau in
    let h = c.args.home.row in
    let d = x0_in t in
    let k = c.args.home.column in
    let row = c.loop-row.row in
    let within : row < length t.basics = omega (arith, c.rows-row-end.ensures.count) in
    elim c.match-candidate.branch [
      | in-Some-candidate w ↦ record {
        choice =
            c.loop-row.invariant.choice
            ∙ leaving-took t h d k row (short_chosen_seen c.loop-row.chosen) (short_candidate_seen w.in-Some-candidate.a) c.requires.kept within (sym (ap short_chosen_seen w.in-Some-candidate.is) ∙ c.candidate.ensures)
            ∙ ap (λ o. leaving_from (Some d) k (row + 1) (Some o) (drop (row + 1) (rough_lines (kept_state t h d 0 0))) (drop (row + 1) (kept_basics t h d))) (sym w.better_of.ensures)
            ∙ ap (λ (o : Option ShortCandidate). leaving_from (Some d) k (row + 1) (short_chosen_seen o) (drop (row + 1) (rough_lines (kept_state t h d 0 0))) (drop (row + 1) (kept_basics t h d))) (sym w.chosen-is);
        sizes = c.short_seen-spread.ensures;
      }
      | in_default-candidate w ↦ record {
        choice =
            c.loop-row.invariant.choice
            ∙ leaving-passed t h d k row (short_chosen_seen c.loop-row.chosen) c.requires.kept within (sym (ap short_chosen_seen w.in_default-candidate.is) ∙ c.candidate.ensures)
            ∙ ap (λ (o : Option ShortCandidate). leaving_from (Some d) k (row + 1) (short_chosen_seen o) (drop (row + 1) (rough_lines (kept_state t h d 0 0))) (drop (row + 1) (kept_basics t h d))) (sym w.chosen-is);
        sizes = c.short_seen-spread.ensures;
      }
    ]
