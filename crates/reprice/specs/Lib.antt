-- What it is for lent lists to hold a tree's price list, and what follows. Assumes nothing.
pub mod Held
pub mod Prices
pub mod Laws
