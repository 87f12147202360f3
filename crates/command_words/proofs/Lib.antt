mod Common
mod ClapLaws
mod ClapOptions
mod ClapReads
mod ClapRows
mod ClapStates
mod ClapTurns
mod ClapWalk
pub mod LimitLaws
mod LimitTurns
pub mod Requests
mod WordExamples
mod WordSpelling
