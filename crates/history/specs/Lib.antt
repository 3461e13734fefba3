pub mod Calls
pub mod News
pub mod Tickets
pub mod Book
pub mod Beginning
pub mod Guarantee
