pub mod Phases
pub mod Quoting
pub mod Calls
pub mod Marketplaces
pub mod Handling
pub mod Bounds
