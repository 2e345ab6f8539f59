pub mod Fold
pub mod Handing
