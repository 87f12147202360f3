pub mod Common
mod SpanPlaces
mod NearRows
mod SpannedEnds
mod FoundEnds
mod BuiltCapacities
mod Examples
