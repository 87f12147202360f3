use Rattle.osemosys_run.proofs.Common.{inl, inr, ProofLaws}
use Rattle.osemosys_run.proofs.ProvedEnds.{accepts-end, accepts-from}
use Rattle.osemosys_run.proofs.SomeVariable.{some-variable}
use Rattle.osemosys_run.proofs.accepting.accepting_laws.Goals as goal

pub returns : goal.returns
returns c =
    let laws : ProofLaws = record { one_proof = c.proof_telling_laws.ensures.one_proof; proof_or_fault = c.proof_telling_laws.ensures.proof_or_fault } in
    λ places gap pivots method rounded source d end status proof text accepted proves due.
    elim proves [
      | inl solved ↦ accepts-end laws c.stop_laws.ensures.made places gap pivots d (some-variable source d accepted) rounded end proof status text method solved due
      | inr (start, solved) ↦ accepts-from laws c.stop_laws.ensures.made places gap pivots d (some-variable source d accepted) rounded end proof status text method start solved due
    ]
