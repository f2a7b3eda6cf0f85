pub mod Computing
pub mod Alike
