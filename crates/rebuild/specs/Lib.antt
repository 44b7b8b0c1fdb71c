-- What a rebuild writes into a flat list of children. Assumes nothing.
pub mod Writes
pub mod Builds
