pub mod Computed
pub mod Easy
pub mod EarliestStart
