pub mod Submit
pub mod Advance
pub mod Depart
pub mod Tick
