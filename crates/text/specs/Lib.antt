-- The lines of a plan. Assumes nothing.
pub mod Lists
pub mod Lines
pub mod Plan
pub mod Flags
pub mod Output
