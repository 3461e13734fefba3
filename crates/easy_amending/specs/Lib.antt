pub mod Superseding
