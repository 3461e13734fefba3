pub mod KeptPoints
