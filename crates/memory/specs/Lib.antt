-- Pricing of a network in memory: the record of lists that are lent whole. Assumes nothing.
pub mod Copies
pub mod Call
pub mod Numbers
pub mod Promise
pub mod Lists
