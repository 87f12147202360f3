use Rattle.osemosys_run.proofs.Common.{ProofLaws, form_of}
use Rattle.osemosys_run.proofs.ShownProofs.{table-shows}
use Rattle.osemosys_run.proofs.SomeVariable.{some-variable}
use Rattle.osemosys_run.proofs.shown_proofs.written_laws.Goals as goal

pub returns : goal.returns
returns c =
    let laws : ProofLaws = record { one_proof = c.proof_telling_laws.ensures.one_proof; proof_or_fault = c.proof_telling_laws.ensures.proof_or_fault } in
    λ places gap pivots method rounded source d proof name shown exact status text accepted proves named due.
    table-shows laws c.stop_laws.ensures.made places gap pivots method rounded d (some-variable source d accepted) proof proves status text name shown (form_of exact) named due
