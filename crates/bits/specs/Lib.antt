pub mod Bit
pub mod Digits
pub mod Lowest
pub mod Submask
pub mod Splits
