pub mod Scan
pub mod ByRoom
