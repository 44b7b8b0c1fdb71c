-- Frontiers as lists of node numbers, and the trees that they stand for. Assumes nothing.
pub mod Opens
pub mod Costs
pub mod Ranks
pub mod Turns
pub mod Swaps
pub mod Fronts
