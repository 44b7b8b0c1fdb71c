-- Steps as records of five numbers, and pricing that hands them out. Assumes nothing.
pub mod Records
pub mod Listed
pub mod Promise
