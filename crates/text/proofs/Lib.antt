pub mod Blocks
pub mod Joins
pub mod Lawful
pub mod Limited
pub mod Shapes
pub mod Unicode
