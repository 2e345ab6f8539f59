pub mod Sum
pub mod Column
pub mod Use
pub mod Step
pub mod Demand
pub mod Open
