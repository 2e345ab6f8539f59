pub mod Profiles
pub mod Requests
pub mod Sets
