pub mod Places
pub mod SeasonPlayer
