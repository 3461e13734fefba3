pub mod ListCall
pub mod ProfileCall
pub mod IndexCall
pub mod LongestCall
pub mod TextCall
pub mod RestoreCall
pub mod MigrateCall
pub mod AmendCall
