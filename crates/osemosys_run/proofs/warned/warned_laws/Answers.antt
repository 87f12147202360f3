use Rattle.std.proofs.Common.{inl, inr}
use Rattle.param_tables.specs.Built.{Built}
use Rattle.osemosys_run.proofs.warned.warned_laws.Goals as goal

pub returns : goal.returns
returns c = λ file rounded d status text warned f found told places q x plan.
    let built : Built = record { facts = d; rounded = rounded } in
    elim told [
      | inl excludes ↦ c.no_plan_laws.ensures.excluded built f found excludes places q x plan
      | inr ends ↦ c.no_plan_laws.ensures.told built f warned.complete.sets found ends places q x plan
    ]
