pub mod Reading
pub mod Writing
pub mod Printout
pub mod Beginnings
pub mod PlayedCalls
pub mod MarkedExamples
pub mod Computed
