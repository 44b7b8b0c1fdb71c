pub mod Spans
pub mod Shrinks
pub mod Stage
pub mod Layouts
pub mod Deeper
pub mod Lists
