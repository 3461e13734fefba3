pub mod Restoring
