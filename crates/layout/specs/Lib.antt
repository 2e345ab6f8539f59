pub mod Profiles
pub mod Places
pub mod Bounds
pub mod SoundAt
pub mod Placed
pub mod Rows
