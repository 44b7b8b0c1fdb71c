-- Words and decimal numbers put one after another; the lines of steps. Assumes nothing.
pub mod Puts
pub mod Digits
pub mod Steps
pub mod Lines
