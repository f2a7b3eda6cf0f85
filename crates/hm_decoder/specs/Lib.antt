pub mod Fed
pub mod Laws
pub mod Pieces
pub mod Examples
