pub mod Listing
pub mod Checks
pub mod Handled
pub mod Fitting
