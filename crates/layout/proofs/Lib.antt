pub mod Profiles
pub mod Lent
pub mod Fresh
pub mod Firm
pub mod Soundness
pub mod SoundAt
pub mod Placed
