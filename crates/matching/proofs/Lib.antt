pub mod Writing
pub mod Going
pub mod Fronts
pub mod Turns
pub mod Pairs
pub mod Ending
