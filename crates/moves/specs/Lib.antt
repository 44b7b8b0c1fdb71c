pub mod Kept
pub mod Split
pub mod Laying
pub mod Sums
pub mod Rolled
pub mod Loans
