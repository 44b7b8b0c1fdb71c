-- What is printed for a file, and that it is sound; the plan in lent lists; how large its counts get; what is left to print. Assumes nothing.
pub mod Bounds
pub mod Output
pub mod Printing
pub mod Reading
pub mod Slices
pub mod Sound
pub mod Stages
pub mod Writing
