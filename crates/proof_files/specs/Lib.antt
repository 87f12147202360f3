pub mod PlansWithin
pub mod ProofRecords
pub mod Proofs
