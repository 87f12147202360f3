use Rattle.osemosys_run.proofs.Completeness.{Laws}
use Rattle.osemosys_run.proofs.RequestEnds.{completes_words}
use Rattle.osemosys_run.proofs.completing.completing_laws.Goals as goal

pub returns : goal.returns
returns c =
    let laws : Laws =
    record {
      one_data = c.acceptance_laws.ensures.one_data;
      one_count = c.acceptance_laws.ensures.one_count;
      not_both = c.acceptance_laws.ensures.not_both;
      one_plan = c.telling_laws.ensures.plan;
      one_multipliers = c.telling_laws.ensures.multipliers;
      plan_or_fault = c.telling_laws.ensures.plan_or_fault;
      multipliers_or_fault = c.telling_laws.ensures.multipliers_or_fault;
      one_proof = c.proof_telling_laws.ensures.one_proof;
      proof_or_fault = c.proof_telling_laws.ensures.proof_or_fault;
      made = c.stop_laws.ensures.made;
    } in
    λ words files status text due request contents asks there can. completes_words laws words files status text due request contents asks there can
