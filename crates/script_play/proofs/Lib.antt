pub mod Remainder
pub mod Progress
