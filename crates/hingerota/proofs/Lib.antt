pub mod Lengths
pub mod ReadBack
pub mod DeskPremise
pub mod CallContract
pub mod AdvanceContract
pub mod MigrateContract
pub mod Checks
pub mod Chain
