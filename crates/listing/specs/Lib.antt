-- The listing of a priced tree as bytes: numbers, the head, the whole; the reader's answer. Assumes nothing.
pub mod Bytes
pub mod Head
pub mod Listing
pub mod Reading
