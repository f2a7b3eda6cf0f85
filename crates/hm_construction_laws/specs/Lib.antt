pub mod Steps
pub mod Trees
pub mod Closing
pub mod Examples
pub mod Laws
pub mod Weights
