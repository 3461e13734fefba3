pub mod ExactText
pub mod ListedText
pub mod ListedPlan
