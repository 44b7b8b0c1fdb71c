-- The index sets of masks of members: how they are weighed, united and kept. Assumes nothing.
pub mod Rows
pub mod Weights
pub mod Tables
pub mod Singles
pub mod Unions
pub mod Keeps
pub mod Planes
