use Rattle.osemosys_run.proofs.Common.{ProofLaws, ShowsPage}
use Rattle.osemosys_run.proofs.ShownProofs.{shows-written}
use Rattle.osemosys_run.proofs.SomeVariable.{some-variable}
use Rattle.osemosys_run.proofs.shown_proofs.page_laws.Goals as goal

pub returns : goal.returns
returns c =
    let laws : ProofLaws = record { one_proof = c.proof_telling_laws.ensures.one_proof; proof_or_fault = c.proof_telling_laws.ensures.proof_or_fault } in
    λ places gap pivots method rounded source d proof title also status text accepted proves due.
    shows-written laws c.stop_laws.ensures.made places gap pivots method rounded d (some-variable source d accepted) proof proves status text (λ rows. ShowsPage title also places d rows) due
