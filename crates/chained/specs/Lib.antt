pub mod Links
pub mod Records
pub mod Laws
