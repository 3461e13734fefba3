pub mod Amending
pub mod Steps
pub mod Computed
