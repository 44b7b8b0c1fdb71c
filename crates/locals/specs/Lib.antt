-- Local indices: what they are, and that the search in local numbers is the search. Assumes nothing.
pub mod Locals
pub mod Unions
pub mod Turns
pub mod Alike
pub mod Numbering
pub mod Transfer
