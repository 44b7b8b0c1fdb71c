-- Size bits and work bits by node, from the nodes' sets. Assumes nothing.
pub mod Weights
pub mod Bits
pub mod Loops
pub mod Stepped
