pub mod States
pub mod Units
pub mod Pieces
pub mod Found
pub mod Characters
