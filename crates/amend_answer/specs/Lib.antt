pub mod BothAnswers
