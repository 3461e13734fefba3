pub mod Conservative
pub mod LongestEstimate
pub mod Computed
pub mod LongestComputed
pub mod ReadsComputed
