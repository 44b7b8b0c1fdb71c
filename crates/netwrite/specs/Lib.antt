-- What the writer is handed, the file's length, the refusals, and the bytes. Assumes nothing.
pub mod Contents
pub mod Sizes
pub mod Fronts
pub mod Writes
pub mod Answers
pub mod Ready
