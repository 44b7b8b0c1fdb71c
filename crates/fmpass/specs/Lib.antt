pub mod State
pub mod Fresh
pub mod Until
pub mod Makes
pub mod Turns
pub mod First
pub mod FirstApart
