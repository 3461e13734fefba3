pub mod Why
pub mod Computed
