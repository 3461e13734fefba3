pub mod Lengths
pub mod Equality
