pub mod Meaning
pub mod ArrivalFields
