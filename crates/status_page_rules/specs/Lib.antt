pub mod StatusPage
pub mod Computed
