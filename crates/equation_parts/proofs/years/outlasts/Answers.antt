-- Fewer years are left than the life has.
use Rattle.equation_parts.proofs.Common.{ap₂, ◌∙◌, nat_lt}
use Rattle.equation_parts.proofs.YearLaws.{outlasts-coded}
use Rattle.equation_parts.proofs.years.outlasts.Goals as goal

pub returns : goal.returns
returns c = ap₂ (λ n m. nat_lt n m) c.years_left.ensures.exact c.operational_life.ensures.exact ∙ outlasts-coded c.args.model.now.facts c.args.r c.args.t c.args.y c.requires.year
