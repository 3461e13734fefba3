pub mod Parts
pub mod Submitting
pub mod Compacting
pub mod Leaving
