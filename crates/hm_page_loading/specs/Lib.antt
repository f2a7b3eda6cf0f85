pub mod Pages
pub mod Spacing
pub mod Loading
