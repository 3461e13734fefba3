pub mod FirstTurn
pub mod NextTurn
