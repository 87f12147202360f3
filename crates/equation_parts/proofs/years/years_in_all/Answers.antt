-- The first year is at least 1.
use Rattle.equation_parts.proofs.Common.{ap, ◌∙◌, sym, subst, rules, first_year}
use Rattle.std.specs.Prelude.{◌≡◌, ◌≤◌}
use Rattle.equation_parts.proofs.YearLaws.{first-from}
use Rattle.equation_parts.proofs.years.years_in_all.Goals as goal

pub overflow_add-result : goal.overflow_add-result
overflow_add-result c =
    let d = c.args.model.now.facts in
    let first : c.first_year.result ≡ first_year d.sets = c.first_year.ensures.number ∙ ap first_year c.sets-2.ensures.sets in
    let from : 1 ≤ c.first_year.result = subst (λ n. 1 ≤ n) (sym first) (first-from d c.sets.ensures.complete.sets c.requires) in
    search rules
