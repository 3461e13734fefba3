pub mod StoredProfile
pub mod CopiedPoints
