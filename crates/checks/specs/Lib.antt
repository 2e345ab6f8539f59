pub mod Sets
pub mod Suits
