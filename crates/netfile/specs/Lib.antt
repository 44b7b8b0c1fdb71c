-- The network file's reader and writer: their answers, and how they follow from what is read and written. Assumes nothing.
pub mod Answers
pub mod Writes
pub mod Results
pub mod Writer
