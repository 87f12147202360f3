use Rattle.proof_files.proofs.ToldProofs.{one_fault, one_proof, proof_or_fault}
use Rattle.proof_files.proofs.laws.proof_telling_laws.Goals as goal

pub returns-clause-one_proof : goal.returns-clause-one_proof
returns-clause-one_proof c sets vars names all p q a b = one_proof sets vars names all p q a b

pub returns-clause-proof_or_fault : goal.returns-clause-proof_or_fault
returns-clause-proof_or_fault c sets vars names all p fault a broken = proof_or_fault sets vars names all p fault a broken

pub returns-clause-one_proof_fault : goal.returns-clause-one_proof_fault
returns-clause-one_proof_fault c sets vars names all fault other a b = one_fault sets vars names all fault other a b
