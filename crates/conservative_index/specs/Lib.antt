pub mod BuiltIndex
pub mod StoredIndex
pub mod Anchors
pub mod Search
pub mod Intake
