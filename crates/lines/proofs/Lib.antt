pub mod Noting
pub mod Reading
pub mod Search
