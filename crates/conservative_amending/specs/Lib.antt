pub mod Amend
