pub mod Common
pub mod AcceptedProofs
mod CheckExamples
mod CheckFiles
mod CheckNames
mod DueOfPlans
mod KeptProofs
pub mod OutcomeLaws
mod ProofExamples
mod ProofLaws
mod ProofNames
pub mod RowContents
