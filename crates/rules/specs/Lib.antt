pub mod Refusals
pub mod Prices
pub mod Sheets
pub mod Forms
pub mod Sides
pub mod Better
