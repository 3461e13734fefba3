pub mod Acceptance
pub mod Texts
pub mod Boundaries
