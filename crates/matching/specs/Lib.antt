pub mod Order
pub mod Choices
pub mod Meshed
pub mod Graphs
