-- Greedy's tables as lists; rows as numbers; scores and their keys. Assumes nothing.
pub mod Lists
pub mod Scores
