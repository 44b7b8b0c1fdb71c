-- Bisection: words that are 0, what its calls ask, a partition, over all leaves, what it answers and leaves behind. Assumes nothing.
pub mod Zeros
pub mod Calls
pub mod Named
pub mod Parting
pub mod Whole
pub mod Answers
