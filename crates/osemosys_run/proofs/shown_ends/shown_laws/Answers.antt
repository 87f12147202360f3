use Rattle.osemosys_run.proofs.SharedOptima.{FileLaws, files-accepted}
use Rattle.osemosys_run.proofs.shown_ends.shown_laws.Goals as goal

pub returns : goal.returns
returns c =
    let laws : FileLaws = record {
      plan = c.telling_laws.ensures.plan;
      multipliers = c.telling_laws.ensures.multipliers;
      plan_or_fault = c.telling_laws.ensures.plan_or_fault;
      multipliers_or_fault = c.telling_laws.ensures.multipliers_or_fault;
    } in
    files-accepted laws c.stop_laws.ensures.made
