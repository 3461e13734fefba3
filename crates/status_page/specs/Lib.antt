pub mod JobLines
pub mod SlotLines
