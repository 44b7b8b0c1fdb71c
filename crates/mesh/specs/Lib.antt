pub mod Stays
pub mod Fronts
pub mod Entries
pub mod Crossed
pub mod Compact
pub mod Mesh
