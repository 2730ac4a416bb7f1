pub mod Runs
pub mod Scenarios
pub mod Table
pub mod Callers
