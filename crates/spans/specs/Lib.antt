pub mod Spans
pub mod Computed
pub mod Index
pub mod IndexComputed
pub mod EveryMinute
