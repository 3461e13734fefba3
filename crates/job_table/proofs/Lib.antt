pub mod Whole
pub mod Live
