use Rattle.param_tables.proofs.Common.{ℕ, ap₂, ◌∙◌, Data}
use Rattle.param_tables.proofs.ClosedLaws.{opened_kept}
use Rattle.param_tables.proofs.OpenLaws.{complete_opened}
use Rattle.param_tables.proofs.open_data.OpenData.new.Goals as goal

pub invariant_of-result : goal.invariant_of-result
invariant_of-result c = (opened_kept c.into_parts-parts.result.sets c.into_parts-parts.result.tables.items c.into_parts-parts.result.second c.into_parts-parts.ensures.kept c.in_ok-tables.tables.items c.in_ok-tables.ensures).0

pub returns-clause-same : goal.returns-clause-same
returns-clause-same c =
    let parts = c.into_parts-parts.result in
    let same = (opened_kept parts.sets parts.tables.items parts.second c.into_parts-parts.ensures.kept c.in_ok-tables.tables.items c.in_ok-tables.ensures).1 in
    ap₂ (λ (facts : Data) (rounded : ℕ). record { facts = facts; rounded = rounded }) (same ∙ c.into_parts-parts.ensures.facts) c.into_parts-parts.ensures.rounded

pub returns-clause-complete : goal.returns-clause-complete
returns-clause-complete c =
    let parts = c.into_parts-parts.result in
    complete_opened parts.sets c.in_ok-tables.tables.items parts.second (opened_kept parts.sets parts.tables.items parts.second c.into_parts-parts.ensures.kept c.in_ok-tables.tables.items c.in_ok-tables.ensures).0
