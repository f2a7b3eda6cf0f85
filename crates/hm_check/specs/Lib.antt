pub mod Differences
pub mod Rows
pub mod Verdicts
pub mod Steps
pub mod Sweeps
pub mod Trees
pub mod Following
pub mod Laws
