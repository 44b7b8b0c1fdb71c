pub mod Starts
pub mod Passes
