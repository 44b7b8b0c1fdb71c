-- What the functions of a C host promise: pricing a file, and the planners on a network in memory. Assumes nothing.
pub mod Made
pub mod Own
pub mod Sound
pub mod Greedy
pub mod Bisection
pub mod Reconfigure
pub mod Slice
