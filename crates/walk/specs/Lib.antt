-- The walks over a tree in lent words. Assumes nothing.
pub mod Stack
pub mod Marks
pub mod Check
pub mod Wrong
pub mod Order
pub mod Entry
