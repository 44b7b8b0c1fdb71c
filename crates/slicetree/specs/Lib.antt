-- Slicing with a pass of improvement after each choice; the entry of slicing: what it answers, and that its parts make the call. Assumes nothing.
pub mod Widest
pub mod Once
pub mod Choices
pub mod Clear
pub mod Answers
