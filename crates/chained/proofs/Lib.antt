pub mod Chain
pub mod Columns
pub mod Formed
pub mod Held
pub mod Meant
pub mod Moves
pub mod Rest
pub mod Steps
