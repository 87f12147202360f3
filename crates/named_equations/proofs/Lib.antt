pub mod Common
mod BaseFile
mod BaseInstances
mod BasePlan
mod BothSides
mod CapitalRecovery
mod ExistingVariables
mod FeasiblePlans
mod FactorsInStatements
mod FractionPlans
pub mod InstanceOrder
pub mod InstanceTests
mod LimitEdges
mod MadeFile
mod MadeInstances
mod NineDecimalPlaces
mod ParameterNames
pub mod SortedLists
mod RegionFactorExamples
mod Tables
mod Targets
mod Trades
mod TwoOfEach
mod VariableNames
mod WhatDefines
mod YearsWithGap
pub mod TermMeaning
pub mod TermShapes
pub mod NestedTerms
pub mod PositionsInSets
pub mod SomePosition
pub mod SumExchange
pub mod SameValues
pub mod SameParameters
pub mod SameConditions
pub mod SameConstants
pub mod SameEquations
pub mod SameStands
pub mod SameInstances
pub mod AlikeData
