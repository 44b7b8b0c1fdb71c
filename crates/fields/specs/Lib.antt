-- Fields split off, and read into a record; what a scan stands for. Assumes nothing.
pub mod Dues
pub mod Scans
pub mod Steps
pub mod Fields
pub mod Whole
