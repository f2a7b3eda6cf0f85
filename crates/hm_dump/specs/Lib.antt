pub mod Dump
pub mod Given
pub mod Runs
