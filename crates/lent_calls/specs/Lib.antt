pub mod CallContract
pub mod AdvanceContract
pub mod ListContract
pub mod ProfileContract
pub mod IndexContract
pub mod RestoreContract
pub mod MigrateContract
pub mod MixedCalls
