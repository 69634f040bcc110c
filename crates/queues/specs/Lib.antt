pub mod Forests
pub mod Lawful
pub mod Links
pub mod Lists
pub mod Records
pub mod Slices
pub mod Writes
