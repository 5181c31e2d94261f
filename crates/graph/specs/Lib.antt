pub mod Nets
pub mod Searches
pub mod Costs
pub mod Finding
