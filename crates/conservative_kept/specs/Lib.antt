pub mod Beside
pub mod Tick
pub mod Submit
pub mod Depart
