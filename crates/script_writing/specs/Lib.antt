pub mod AnswerText
pub mod RowLaws
