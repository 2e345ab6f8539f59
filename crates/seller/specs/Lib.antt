pub mod Offer
pub mod Uses
