-- One visit of a node: what it makes of the tree and of the lent lists. Assumes nothing.
pub mod Visits
pub mod Spots
pub mod Grafts
pub mod Locals
pub mod Parts
pub mod Cases
pub mod Node
pub mod Settled
pub mod Fronts
pub mod Again
pub mod Benches
