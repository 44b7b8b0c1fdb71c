-- What pricing answers, its loops, and that they give the price list. Assumes nothing.
pub mod Answers
pub mod Sums
pub mod Lines
pub mod Nodes
pub mod Tables
pub mod Promise
pub mod Whole
pub mod Handed
pub mod Final
pub mod Lists
pub mod Accept
pub mod Fronts
