pub mod DueMinutes
pub mod ConservativeTick
pub mod QuietTicks
pub mod QuietCount
