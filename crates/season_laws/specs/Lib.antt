pub mod Accepted
pub mod Ended
pub mod Progress
pub mod EndedRows
pub mod QuietSeason
pub mod OnTime
pub mod SeasonCalls
