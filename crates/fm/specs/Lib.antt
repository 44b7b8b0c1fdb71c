pub mod Again
pub mod NetAgain
pub mod NetsAgain
pub mod Turns
pub mod Words
pub mod Neighbours
