pub mod Taking
pub mod Loaded
