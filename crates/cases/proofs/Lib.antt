pub mod Restating
pub mod Computed
