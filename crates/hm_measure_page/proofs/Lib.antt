pub mod Plain
pub mod Texts
pub mod Lengths
