pub mod Gaps
pub mod Doctypes
pub mod Tags
