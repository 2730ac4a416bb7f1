pub mod Trades
pub mod Matching
pub mod Looking
pub mod Ways
pub mod Placing
pub mod Sets
pub mod Placement
