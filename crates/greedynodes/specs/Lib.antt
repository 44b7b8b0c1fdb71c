-- Greedy over a list of leaves: lent lists as networks, the start, its lists in longer ones, from merging and rest to the answer; all leaves of a network, counted up. Assumes nothing.
pub mod Lends
pub mod Begin
pub mod Ends
pub mod Within
pub mod Fronts
pub mod Copied
pub mod Counted
pub mod Networks
