pub mod TextParts
pub mod TextSize
