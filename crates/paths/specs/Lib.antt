pub mod Changes
pub mod Exceeding
pub mod Own
