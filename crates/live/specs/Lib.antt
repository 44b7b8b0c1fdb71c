pub mod Common
pub mod Holders
pub mod Merged
