pub mod Plan
pub mod Tested
pub mod Queue
pub mod Rest
pub mod Stage
