pub mod PageTurns
pub mod QuietWait
pub mod PageFilling
