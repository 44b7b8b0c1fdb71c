-- Nodes by falling work; what passes ask and leave, and the laws of their loops. Assumes nothing.
pub mod Sorted
pub mod Made
pub mod Bounds
pub mod Loops
pub mod Nodes
