use Rattle.model_sets.proofs.Common.{[], ap, ◌∙◌, refl, ◌≡◌, true, get_or, arith, members, is_year}
use Rattle.model_sets.proofs.YearLaws.{year_found}
use Rattle.model_sets.proofs.sets.Sets.year.Goals as goal

pub unwrap-requires : goal.unwrap-requires
unwrap-requires c =
    let names = members c.args.self.now 7 in
    let spelled : is_year (get_or names c.args.i []) ≡ true = (c.list-list.ensures.rules.rules 7 (omega arith, omega arith)).years refl c.args.i [] c.requires in
    let same : c.name_at.result.now ≡ get_or names c.args.i [] = c.name_at.ensures ∙ ap (λ list. get_or list c.from.result []) c.list-list.ensures.list ∙ ap (λ i. get_or names i []) c.from.ensures in
    year_found c.name_at.result.now c.year_of.result c.year_of.ensures.value (ap is_year same ∙ spelled)
