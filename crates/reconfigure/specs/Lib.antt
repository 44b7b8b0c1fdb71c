-- What improvement's entry answers and leaves in the lent lists, and its checks; indices that just one leaf names. Assumes nothing.
pub mod Answers
pub mod Checks
pub mod Improves
pub mod Tally
