-- What the programs that run stored cases share: sums over lists, what is written of a list, cases that are run in turn. Assumes nothing.
pub mod Cases
pub mod Sums
pub mod Written
