pub mod Meaning
pub mod NumberBounds
pub mod LineReading
pub mod CommandFields
