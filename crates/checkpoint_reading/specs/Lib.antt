pub mod Meaning
pub mod Records
pub mod RecordLoop
