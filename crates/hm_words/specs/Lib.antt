pub mod Words
pub mod Answers
pub mod Matches
pub mod Examples
