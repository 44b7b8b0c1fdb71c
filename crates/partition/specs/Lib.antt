pub mod Common
pub mod Few
pub mod Folds
pub mod Layout
pub mod Gains
pub mod Cuts
