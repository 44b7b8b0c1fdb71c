pub mod Pairs
pub mod Joined
pub mod Mapped
pub mod Level
pub mod Sizes
