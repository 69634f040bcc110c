pub mod Faults
pub mod Fills
pub mod LineCols
pub mod Looks
pub mod Noted
pub mod Opened
pub mod Starts
