pub mod Tapes
pub mod Days
pub mod Law
pub mod Plays
pub mod Complete
