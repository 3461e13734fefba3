pub mod ListChanges
pub mod Table
pub mod Points
pub mod Join
pub mod LaidSpans
pub mod Advance
pub mod ProfileLists
pub mod Search
