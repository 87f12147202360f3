pub mod Common
pub mod Acceptance
pub mod AcceptedExample
pub mod AcceptedData
pub mod AcceptedText
pub mod BookEnds
pub mod CheckedRows
mod ClosedGaps
mod DefaultTexts
pub mod LineExamples
mod SizeExamples
pub mod ListLines
pub mod ListedBooks
pub mod ListedNames
pub mod MadeBooks
mod MemberNames
pub mod PlanCosts
pub mod SolvedRows
pub mod KeptPlaces
pub mod BookLists
pub mod BookPlaces
pub mod BookProblems
