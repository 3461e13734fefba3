pub mod Soundly
pub mod Accepted
pub mod AcceptedEasy
pub mod RoundTrip
pub mod Restored
pub mod Stages
