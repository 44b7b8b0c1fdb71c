pub mod Smallest
pub mod Joined
pub mod Least
