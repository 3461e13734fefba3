pub mod Counting
pub mod Steps
pub mod OneAnswer
pub mod Sentences
pub mod Growth
