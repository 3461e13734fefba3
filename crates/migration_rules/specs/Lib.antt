pub mod Migration
pub mod Computed
