pub mod Open
pub mod Queues
pub mod Enters
pub mod Apart
