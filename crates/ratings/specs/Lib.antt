pub mod Rated
pub mod Lists
