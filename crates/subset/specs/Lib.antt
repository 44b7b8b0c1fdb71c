-- The search over subsets on tables: weighing, the walk over the splits of a mask, and what the tables stand for. Assumes nothing.
pub mod Walk
pub mod Considers
pub mod Walking
pub mod Entries
pub mod Fills
pub mod Regions
pub mod Stands
pub mod Whole
pub mod Counts
pub mod Sets
pub mod Ran
pub mod Rooms
pub mod Search
pub mod Searched
pub mod Limits
