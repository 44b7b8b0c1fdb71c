-- The leaves below each node, as sets in slots of words. Assumes nothing.
pub mod Passes
pub mod Search
pub mod Right
pub mod Whole
