pub mod Ways
pub mod Named
