-- The entries on trees. Assumes nothing.
pub mod Answers
