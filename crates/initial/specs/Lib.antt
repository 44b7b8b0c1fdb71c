pub mod Tried
pub mod Least
