-- Each number has its variable and its value.
use Rattle.limit_rows.proofs.Common.{◌≡◌, refl, rules, TCC1, TCC2, NCC1, NCC2, AAC2, AAC3, TAC2, TAC3, total_annual_max_capacity, total_annual_min_capacity, total_annual_max_capacity_investment, total_annual_min_capacity_investment, total_technology_annual_activity_upper_limit, total_technology_annual_activity_lower_limit, total_technology_model_period_activity_upper_limit, total_technology_model_period_activity_lower_limit, of_number}
use Rattle.limit_rows.proofs.Meaning.{terms-at}
use Rattle.limit_rows.proofs.limits.limit_of.Goals as goal

pub returns-in-43 : goal.returns-in-43
returns-in-43 c =
    let i = c.args.name.index in (total_annual_max_capacity c.args.model.now.facts i.region i.tech i.year, terms-at c.args.model.now.facts c.args.name TCC1 c.in-43.is, c.value.ensures)

pub returns-in-44 : goal.returns-in-44
returns-in-44 c =
    let i = c.args.name.index in (total_annual_min_capacity c.args.model.now.facts i.region i.tech i.year, terms-at c.args.model.now.facts c.args.name TCC2 c.in-44.is, c.value-in-44.ensures)

pub returns-in-45 : goal.returns-in-45
returns-in-45 c =
    let i = c.args.name.index in (total_annual_max_capacity_investment c.args.model.now.facts i.region i.tech i.year, terms-at c.args.model.now.facts c.args.name NCC1 c.in-45.is, c.value-in-45.ensures)

pub returns-in-46 : goal.returns-in-46
returns-in-46 c =
    let i = c.args.name.index in (total_annual_min_capacity_investment c.args.model.now.facts i.region i.tech i.year, terms-at c.args.model.now.facts c.args.name NCC2 c.in-46.is, c.value-in-46.ensures)

pub returns-in-48 : goal.returns-in-48
returns-in-48 c =
    let i = c.args.name.index in (total_technology_annual_activity_upper_limit c.args.model.now.facts i.region i.tech i.year, terms-at c.args.model.now.facts c.args.name AAC2 c.in-48.is, c.value-in-48.ensures)

pub returns-in-49 : goal.returns-in-49
returns-in-49 c =
    let i = c.args.name.index in (total_technology_annual_activity_lower_limit c.args.model.now.facts i.region i.tech i.year, terms-at c.args.model.now.facts c.args.name AAC3 c.in-49.is, c.value-in-49.ensures)

pub returns-in-51 : goal.returns-in-51
returns-in-51 c =
    let i = c.args.name.index in (total_technology_model_period_activity_upper_limit c.args.model.now.facts i.region i.tech, terms-at c.args.model.now.facts c.args.name TAC2 c.in-51.is, c.value-in-51.ensures)

pub value-requires-in_default-clause-index : goal.value-requires-in_default-clause-index
value-requires-in_default-clause-index c =
    let is : c.args.name.eq ≡ TAC3 = search rules in
    let at = of_number c.args.model.now.facts c.args.name.eq TAC3 c.args.name.index is c.requires.index in
    (at.region refl, (at.technology refl, tt))

pub returns-in_default : goal.returns-in_default
returns-in_default c =
    let is : c.args.name.eq ≡ TAC3 = search rules in
    let i = c.args.name.index in (total_technology_model_period_activity_lower_limit c.args.model.now.facts i.region i.tech, terms-at c.args.model.now.facts c.args.name TAC3 is, c.value-in_default.ensures)
