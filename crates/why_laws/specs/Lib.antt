pub mod Readability
pub mod Holders
pub mod Sizes
pub mod Calls
