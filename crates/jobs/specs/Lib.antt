pub mod Order
pub mod Soundness
pub mod Premise
pub mod Judgement
pub mod Slots
pub mod Departing
pub mod NoCleanup
pub mod Amended
