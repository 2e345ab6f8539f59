pub mod Hourly
pub mod Walk
pub mod Changed
pub mod Posted
pub mod Overlaid
