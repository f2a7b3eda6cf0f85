pub mod Answers
pub mod Elements
pub mod Examples
pub mod Moves
pub mod Plans
