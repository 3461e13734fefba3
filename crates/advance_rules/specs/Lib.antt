pub mod Advance
pub mod Computed
