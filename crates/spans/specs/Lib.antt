pub mod Faults
pub mod Opened
pub mod Sound
