-- Bisection of some leaves, by cases of the definition; their hypergraph; the halves by a partition; through coarser levels and back. Assumes nothing.
pub mod Eps
pub mod Cuts
pub mod Cases
pub mod Recursion
pub mod Raw
pub mod Whole
pub mod Picks
pub mod Through
