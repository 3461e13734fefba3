pub mod CallColumns
pub mod BegunColumns
pub mod CallsByKind
pub mod DueColumns
pub mod Held
