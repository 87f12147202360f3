pub mod Common
mod NamedRows
mod ConflictNames
mod ConflictLists
mod TrialPlaces
mod TextLaws
mod ShownLaws
mod ExplainEnds
