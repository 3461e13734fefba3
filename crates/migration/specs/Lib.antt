pub mod HeldSlots
pub mod StoredChange
pub mod Replanning
