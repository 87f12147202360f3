pub mod ModelCost
