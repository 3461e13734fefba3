pub mod UsedNodes
pub mod EarliestStart
pub mod ProfileLaws
pub mod EveryMinute
