pub mod TextCall
