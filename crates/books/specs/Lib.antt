pub mod Lists
pub mod Arranging
pub mod Packing
pub mod Histories
pub mod Laws
