pub mod PlannedSlots
pub mod EarliestStart
pub mod Replan
pub mod Pass
pub mod StoredPass
