-- What a record stands for, and laws of networks as lists with counts. Assumes nothing.
pub mod Record
pub mod Layouts
pub mod Searches
pub mod Checks
pub mod Codes
pub mod Additions
pub mod Lists
pub mod Views
pub mod Fronts
