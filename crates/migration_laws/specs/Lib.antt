pub mod Holders
pub mod Planning
pub mod Migrated
pub mod Soonest
