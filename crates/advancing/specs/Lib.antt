pub mod Minutes
pub mod Advances
pub mod DueSlots
pub mod Counting
