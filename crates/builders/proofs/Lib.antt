pub mod Judging
pub mod Lasts
