pub mod Cursor
pub mod Signs
pub mod Rounding
