use Rattle.check_command.proofs.AcceptedProofs.{ProofLaws}
use Rattle.osemosys_run.proofs.ComparedCosts.{CostLaws, difference-promised}
use Rattle.osemosys_run.proofs.compare_laws.difference_laws.Goals as goal

pub returns : goal.returns
returns c =
    let laws : ProofLaws = record { one_proof = c.proof_telling_laws.ensures.one_proof; proof_or_fault = c.proof_telling_laws.ensures.proof_or_fault } in
    let costs : CostLaws = record { raises = c.least_cost_laws.ensures.raises; lowers = c.least_cost_laws.ensures.lowers; least = c.least_cost_laws.ensures.least; most = c.least_cost_laws.ensures.most } in
    λ written gap source proof_bytes source2 proof_bytes2 text due. difference-promised laws costs written gap source proof_bytes source2 proof_bytes2 text due
