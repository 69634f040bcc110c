pub mod Turns
pub mod Cursors
pub mod Stepping
pub mod Written
pub mod Building
pub mod Settled
pub mod Rewritten
