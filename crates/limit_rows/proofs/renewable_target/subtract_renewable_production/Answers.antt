-- Those that are listed are technologies.
use Rattle.limit_rows.proofs.Common.{◌∙◌, technology, count_of, produces}
use Rattle.limit_rows.proofs.Makers.{below_count}
use Rattle.limit_rows.proofs.renewable_target.subtract_renewable_production.Goals as goal

pub subtract_products-requires-clause-technologies : goal.subtract_products-requires-clause-technologies
subtract_products-requires-clause-technologies c =
    let d = c.args.model.now.facts in
    below_count (λ t. produces d c.args.r t c.args.f c.args.y) (count_of d technology) c.deref.result.now (c.deref.ensures.value ∙ c.in_ok-makers.ensures)
