pub mod Pieces
pub mod Texts
pub mod Tags
pub mod Steps
pub mod Lines
pub mod Page
