pub mod Common
pub mod AllTerms
mod BookExamples
pub mod CellLaws
pub mod Columns
pub mod CostTerms
pub mod Definers
pub mod DefinitionSigns
pub mod Elements
pub mod EnergySigns
pub mod EnergyTerms
pub mod EntryVariables
mod Examples
mod InvestmentExamples
mod FeedExamples
mod FeedLaws
pub mod GatheredLaws
pub mod GivenValues
mod HeldVariables
pub mod InstanceRows
pub mod Instances
pub mod KeptLaws
pub mod KindLaws
mod KindVariableLaws
pub mod LimitSigns
pub mod LimitTerms
pub mod Lists
pub mod MadeAgain
pub mod Numbers
pub mod ParameterSigns
pub mod Periods
pub mod Places
pub mod PlacesOfFactors
pub mod Ranges
pub mod RatioCells
pub mod RatioIndices
pub mod Regions
mod ReplacedExamples
pub mod ReplacedLaws
pub mod RowsAddedLaws
pub mod RowsOfCells
pub mod SameCostTerms
pub mod SameEnergyTerms
pub mod SameLimitTerms
pub mod SameRows
pub mod SameTerms
pub mod SignLaws
pub mod SignShapes
pub mod StopLaws
pub mod Subscripts
pub mod TallyLaws
pub mod TermVariables
pub mod Triangles
pub mod VariablesInOrder
pub mod Within
