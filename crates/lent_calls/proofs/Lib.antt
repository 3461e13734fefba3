pub mod CallContract
pub mod MixedCalls
