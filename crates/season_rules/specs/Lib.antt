pub mod Reading
pub mod Season
pub mod Computed
pub mod Boundaries
