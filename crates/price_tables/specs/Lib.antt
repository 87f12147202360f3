pub mod PriceAmounts
pub mod PriceTables
pub mod PricedRows
