pub mod Order
pub mod Marks
pub mod Uses
