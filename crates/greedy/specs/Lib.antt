-- The entry of greedy: over all leaves, what it answers, what it leaves behind. Assumes nothing.
pub mod Whole
pub mod Answers
