pub mod Players
pub mod PageFilling
