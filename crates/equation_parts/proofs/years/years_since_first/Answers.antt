-- No year lies beyond the last.
use Rattle.equation_parts.proofs.Common.{ap, ◌∙◌, arith, first_year, number_of_year}
use Rattle.std.specs.Prelude.{◌≡◌}
use Rattle.equation_parts.proofs.YearLaws.{within-last}
use Rattle.equation_parts.proofs.years.years_since_first.Goals as goal

pub returns-clause-within : goal.returns-clause-within
returns-clause-within c =
    let d = c.args.model.now.facts in
    let y : c.year.result ≡ number_of_year d c.args.y = c.year.ensures.number ∙ ap (λ sets. number_of_year (record d { sets = sets }) c.args.y) c.sets.ensures.sets in
    let first : c.first_year.result ≡ first_year d.sets = c.first_year.ensures.number ∙ ap first_year c.sets-2.ensures.sets in
    let within = within-last d c.args.y c.requires in
    rw (y, first) (omega (arith, within))
