pub mod Chains
pub mod Shares
