pub mod UsedSlots
pub mod EndingSlot
pub mod QuietSlots
pub mod DueRows
pub mod NextTurn
