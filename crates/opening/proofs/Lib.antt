pub mod Chained
pub mod Linked
pub mod Shared
pub mod Added
pub mod Tests
