-- What the passes over slots do, and that each node's slot then holds the node's list. Assumes nothing.
pub mod Passes
pub mod FlatTree
pub mod Places
pub mod Mixes
pub mod Sets
pub mod Order
pub mod Steps
pub mod Turns
pub mod Flow
pub mod Right
pub mod Reads
pub mod Lists
