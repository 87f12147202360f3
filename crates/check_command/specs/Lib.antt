pub mod AcceptedProofs
pub mod Check
pub mod CheckLines
pub mod CheckOutcomes
pub mod CheckProof
pub mod ProofVerdicts
