-- Sums by index over steps and tables; the best candidate, as a loop finds it and by the definitions; the turns of slicing. Assumes nothing.
pub mod Sums
pub mod Words
pub mod Nodes
pub mod Best
pub mod Folds
pub mod Tables
pub mod Promise
pub mod Weights
pub mod Whole
pub mod Turns
pub mod Priced
pub mod Fronts
